-- The fields of a record's lines (this project's).
use Rattle.std.specs.Prelude.{ℕ, ◌+◌, ◌-◌, ◌*◌, ◌^◌, ◌==◌, ◌&&◌, ◌||◌, not, nat_le, nat_lt, Bool, true, false, List, [], ◌∷◌, length, codes, decimal, slice_index, Option, Some, None, Result, Ok, Err, if◌then◌else◌, option_map, option_and_then}
use Rattle.std.specs.{List.slice_split, Char.is_ascii_digit, Str.bytes_eq, Str.all_ascii_digits, Str.Parse.digits_value}
use Rattle.hex.specs.Hex.{encode_lower, decode_sized}
use Rattle.hex.specs.declared.error.FromHexError.{FromHexError}
use Rattle.order_law.specs.declared.edges.{Edge.Edge, EdgeKind.EdgeKind, EdgeKind.TheVariants.Raw, EdgeKind.TheVariants.Waw, EdgeKind.TheVariants.War}
use Rattle.order_law.specs.declared.records.Reach.{Reach}
use Rattle.order_law.specs.RecordForm.{is_edge, edge_before, is_reach}

-- one byte more in front of the first part
abbrev pub onto : ℕ → Option (List ℕ × List ℕ) → Option (List ℕ × List ℕ)
onto b parts = option_map (λ x. (b ∷ x.0, x.1)) parts

-- what stands before the first separator and what follows it, if there is one
abbrev pub cut : ℕ → List ℕ → Option (List ℕ × List ℕ)
cut separator [] = None
cut separator (b ∷ bs) = if b == separator then Some ([], bs) else onto b (cut separator bs)

-- what follows this word and a space
unfoldable pub after : List ℕ → List ℕ → Option (List ℕ)
after word line = option_and_then (λ x. if bytes_eq x.0 word then Some x.1 else None) (cut 32 line)

-- ---- numbers

-- the value of decimal digits, if it is at most this
unfoldable pub digits_up_to : ℕ → List ℕ → Option ℕ
digits_up_to most bytes = if all_ascii_digits bytes && nat_le (digits_value 10 bytes) most then Some (digits_value 10 bytes) else None

-- the value with one more digit, if it is at most this; 48 is `0`
abbrev pub with_digit : ℕ → ℕ → ℕ → Option ℕ
with_digit most value b = if is_ascii_digit b && nat_le (value * 10 + (b - 48)) most then Some (value * 10 + (b - 48)) else None

-- a decimal number of at most this: at least one digit, and no zero before another digit; 48 is `0`
unfoldable pub number_up_to : ℕ → List ℕ → Option ℕ
number_up_to most bytes = if length bytes == 0 || (slice_index bytes 0 == 48 && not (length bytes == 1)) then None else digits_up_to most bytes

-- one that 32 bits hold
abbrev pub number_of : List ℕ → Option ℕ
number_of bytes = number_up_to 4294967295 bytes

-- numbers that are joined by commas, 44
abbrev pub numbers_of : List (List ℕ) → Option (List ℕ)
numbers_of [] = Some []
numbers_of (p ∷ ps) = option_and_then (λ n. option_map (λ ns. n ∷ ns) (numbers_of ps)) (number_of p)

abbrev pub numbers_in : List ℕ → Option (List ℕ)
numbers_in text = numbers_of (slice_split (λ b. b == 44) text)

-- ---- sums

abbrev pub same_hash : List ℕ → Result (List ℕ) FromHexError → Option (List ℕ)
same_hash text (Ok hash) = if bytes_eq (encode_lower hash) text then Some hash else None
same_hash text (Err e) = None

-- the 32 bytes that stand there in lower-case digits
unfoldable pub hash_of : List ℕ → Option (List ℕ)
hash_of text = same_hash text (decode_sized text 32)

-- ---- lines: what each says, if it is one

-- whether the record is of version 2
unfoldable pub header_of : List ℕ → Option Bool
header_of line = if bytes_eq line (codes "electric-record 2") then Some true
    else (if bytes_eq line (codes "electric-record 1") then Some false else None)

-- a word and a sum
unfoldable pub hash_after : List ℕ → List ℕ → Option (List ℕ)
hash_after word line = option_and_then hash_of (after word line)

-- a word and a number of at most this
unfoldable pub number_after : ℕ → List ℕ → List ℕ → Option ℕ
number_after most word line = option_and_then (number_up_to most) (after word line)

-- what follows this word and this number
abbrev pub after_number : List ℕ → ℕ → List ℕ → Option (List ℕ)
after_number word n line = option_and_then (after (decimal n)) (after word line)

-- the sum of the j-th class file
unfoldable pub class_of : ℕ → List ℕ → Option (List ℕ)
class_of j line = option_and_then hash_of (after_number (codes "class") j line)

-- the units of the i-th test
unfoldable pub units_of : ℕ → List ℕ → Option ℕ
units_of i line = option_and_then (number_up_to (2 ^ 26)) (after_number (codes "units") i line)

-- printable ASCII
abbrev pub is_printable : ℕ → Bool
is_printable b = nat_le 32 b && nat_le b 126

-- from 1 up to this
abbrev pub is_within : ℕ → ℕ → Bool
is_within most n = nat_le 1 n && nat_le n most

-- less than the first of these
abbrev pub is_below : ℕ → List ℕ → Bool
is_below n [] = true
is_below n (m ∷ ms) = nat_lt n m

-- settled or open
unfoldable pub state_of : List ℕ → Option Bool
state_of word = if bytes_eq word (codes "settled") then Some true else (if bytes_eq word (codes "open") then Some false else None)

-- a reach of classes up to c
abbrev pub reach_if : ℕ → Reach → Option Reach
reach_if c r = if is_reach c r then Some r else None

unfoldable pub reach_from : ℕ → List ℕ → Option Reach
reach_from c text = option_and_then (λ x. option_and_then (λ settled. option_and_then (λ classes. reach_if c (record { settled = settled; classes = classes })) (numbers_in x.1)) (state_of x.0)) (cut 32 text)

-- the reach of the i-th test
unfoldable pub reach_of : ℕ → ℕ → List ℕ → Option Reach
reach_of c i line = option_and_then (reach_from c) (after_number (codes "reach") i line)

unfoldable pub kind_of : List ℕ → Option EdgeKind
kind_of word = if bytes_eq word (codes "raw") then Some Raw
    else (if bytes_eq word (codes "waw") then Some Waw
    else (if bytes_eq word (codes "war") then Some War else None))

-- a number and what follows it and a space
unfoldable pub number_first : List ℕ → Option (ℕ × List ℕ)
number_first text = option_and_then (λ x. option_map (λ n. (n, x.1)) (number_of x.0)) (cut 32 text)

abbrev pub edge_said : ℕ → ℕ → EdgeKind → ℕ → List ℕ → Edge
edge_said earlier later kind count first = record { earlier = earlier; later = later; kind = kind; count = count; first = first }

-- what a line says of a conflict: the location is all that follows the fourth space
unfoldable pub edge_of : List ℕ → Option Edge
edge_of line = option_and_then (λ x.
    option_and_then (λ kind.
    option_and_then (λ e.
    option_and_then (λ l.
    option_map (λ c. edge_said e.0 l.0 kind c.0 c.1)
    (number_first l.1)) (number_first e.1)) (number_first x.1)) (kind_of x.0)) (cut 32 line)

-- a conflict of n tests that may follow the one before
abbrev pub follows : Option Edge → Edge → Bool
follows None e = true
follows (Some before) e = edge_before before e

abbrev pub edge_if : ℕ → Option Edge → Edge → Option Edge
edge_if n before e = if is_edge n e && follows before e then Some e else None

unfoldable pub next_edge : ℕ → Option Edge → List ℕ → Option Edge
next_edge n before line = option_and_then (edge_if n before) (edge_of line)
