-- How names and texts stand in this project's reports: in ASCII, with an escape for every other code unit or byte.
use Rattle.std.specs.Prelude.{ℕ, ◌/◌, ◌%◌, List, [], ◌∷◌, ◌++◌, Bool, false, nat_le, ◌&&◌, ◌||◌, ◌==◌, if◌then◌else◌, codes, map, unwrap_or}
use Rattle.std.specs.{List.flat_map, Fmt.digit_glyph, Str.encode_utf8_all, Char.Utf16.utf16_chars}

-- a digit below 16, in lower case
abbrev pub hex_digit : ℕ → ℕ
hex_digit d = digit_glyph false d

-- `\u` and the four digits of a code unit
unfoldable pub unit_escape : ℕ → List ℕ
unit_escape u = codes "\\u" ++ hex_digit (u / 4096) ∷ hex_digit (u / 256 % 16) ∷ hex_digit (u / 16 % 16) ∷ hex_digit (u % 16) ∷ []

-- `\x` and the two digits of a byte
unfoldable pub byte_escape : ℕ → List ℕ
byte_escape b = codes "\\x" ++ hex_digit (b / 16) ∷ hex_digit (b % 16) ∷ []

-- Between quotes: `"` is 34 and `\` is 92, with a backslash before them; a line feed, 10, is `\n`; what else is from space to `~` stands for
-- itself; the rest is escaped.
abbrev pub quoted_code : (ℕ → List ℕ) → ℕ → List ℕ
quoted_code escape c = if c == 34 || c == 92 then 92 ∷ c ∷ []
    else (if c == 10 then codes "\\n"
    else (if nat_le 32 c && nat_le c 126 then c ∷ []
    else escape c))

unfoldable pub quoted_unit : ℕ → List ℕ
quoted_unit u = quoted_code unit_escape u

unfoldable pub quoted_byte : ℕ → List ℕ
quoted_byte b = quoted_code byte_escape b

-- between double quotes
abbrev pub quoted_units : List ℕ → List ℕ
quoted_units us = 34 ∷ flat_map quoted_unit us ++ 34 ∷ []

abbrev pub quoted_bytes : List ℕ → List ℕ
quoted_bytes bs = 34 ∷ flat_map quoted_byte bs ++ 34 ∷ []

-- letters, digits, `$`, `-`, `<`, `>` and `_`
abbrev pub is_plain : ℕ → Bool
is_plain u = (nat_le 97 u && nat_le u 122) || (nat_le 65 u && nat_le u 90) || (nat_le 48 u && nat_le u 57)
    || u == 36 || u == 45 || u == 60 || u == 62 || u == 95

-- In a name `/`, 47, becomes a full stop, 46.
unfoldable pub name_unit : ℕ → List ℕ
name_unit u = if is_plain u then u ∷ [] else (if u == 47 then 46 ∷ [] else unit_escape u)

abbrev pub name_of : List ℕ → List ℕ
name_of us = flat_map name_unit us

-- UTF-8 of code units: two surrogates that make a pair are one character, and each other surrogate becomes `?`, 63
abbrev pub utf8_of : List ℕ → List ℕ
utf8_of us = encode_utf8_all (map (λ o. unwrap_or o 63) (utf16_chars us))
