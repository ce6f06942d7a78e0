-- The forms of names in a suite text (this project's).
use Rattle.std.specs.Prelude.{ℕ, ◌==◌, ◌&&◌, ◌||◌, not, Bool, List, length, codes, nat_le}
use Rattle.std.specs.{Char.is_ascii_alphanumeric, List.list_all, List.slice_split, Str.bytes_eq}

-- letters, digits, `_` and `$`
abbrev pub is_word_byte : ℕ → Bool
is_word_byte b = is_ascii_alphanumeric b || b == 95 || b == 36

-- letters, digits, `_`, `$`, `.` and `-`
abbrev pub is_segment_byte : ℕ → Bool
is_segment_byte b = is_word_byte b || b == 46 || b == 45

-- those, at least one, and neither `.` nor `..`
unfoldable pub is_segment : List ℕ → Bool
is_segment s = not (length s == 0) && list_all is_segment_byte s && not (bytes_eq s (codes ".")) && not (bytes_eq s (codes ".."))

-- A depot name has 1 to 255 bytes: segments joined by `/`. It isn't `-`.
unfoldable pub is_depot_name : List ℕ → Bool
is_depot_name name =
    not (length name == 0) && nat_le (length name) 255 && not (bytes_eq name (codes "-")) && list_all is_segment (slice_split (λ b. b == 47) name)

-- printable ASCII and no space
abbrev pub is_graphic : ℕ → Bool
is_graphic b = nat_le 33 b && nat_le b 126

-- a file's name has 1 to 255 such bytes
unfoldable pub is_file_name : List ℕ → Bool
is_file_name name = not (length name == 0) && nat_le (length name) 255 && list_all is_graphic name

-- letters, digits, `_` and `$`, at least one
unfoldable pub is_identifier : List ℕ → Bool
is_identifier part = not (length part == 0) && list_all is_word_byte part

-- a test's name is identifiers joined by dots, at least two
unfoldable pub is_test_name : List ℕ → Bool
is_test_name name = let parts = slice_split (λ b. b == 46) name in nat_le 2 (length parts) && list_all is_identifier parts
