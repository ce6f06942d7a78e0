-- The text of a record (this project's): lines that each end with a line feed, 10; the fields of a line are parted by one space, 32.
use Rattle.std.specs.Prelude.{ℕ, ◌+◌, Bool, true, false, List, [], ◌∷◌, ◌++◌, length, map, nat_eq, nat_lt, ◌&&◌, codes, decimal, Option, Some, None}
use Rattle.std.specs.List.{flat_map, list_all}
use Rattle.hex.specs.Hex.{encode_lower}
use Rattle.order_law.specs.declared.edges.{Edge.Edge, EdgeKind.EdgeKind, EdgeKind.TheVariants.Raw, EdgeKind.TheVariants.Waw, EdgeKind.TheVariants.War}
use Rattle.order_law.specs.declared.records.{Reach.Reach, More.More, Record.Record}

-- a line with its line feed, and lines as a text
abbrev pub ended : List ℕ → List ℕ
ended l = l ++ 10 ∷ []

abbrev pub text_of : List (List ℕ) → List ℕ
text_of lines = flat_map ended lines

-- ---- lines

-- a word and what follows it
abbrev pub worded : List ℕ → List ℕ → List ℕ
worded word rest = word ++ 32 ∷ rest

abbrev pub header_line : Bool → List ℕ
header_line true = codes "electric-record 2"
header_line false = codes "electric-record 1"

abbrev pub digest_line : List ℕ → List ℕ
digest_line hash = worded (codes "digest") (encode_lower hash)

abbrev pub tests_line : ℕ → List ℕ
tests_line n = worded (codes "tests") (decimal n)

abbrev pub suite_line : List ℕ → List ℕ
suite_line hash = worded (codes "suite") (encode_lower hash)

abbrev pub classes_line : ℕ → List ℕ
classes_line n = worded (codes "classes") (decimal n)

-- of the j-th class file
abbrev pub class_line : ℕ → List ℕ → List ℕ
class_line j hash = worded (codes "class") (worded (decimal j) (encode_lower hash))

-- of the i-th test
abbrev pub units_line : ℕ → ℕ → List ℕ
units_line i units = worded (codes "units") (worded (decimal i) (decimal units))

abbrev pub state_word : Bool → List ℕ
state_word true = codes "settled"
state_word false = codes "open"

-- numbers joined by commas, 44
abbrev pub more_numbers : List ℕ → List ℕ
more_numbers ns = flat_map (λ n. 44 ∷ decimal n) ns

abbrev pub numbers_text : List ℕ → List ℕ
numbers_text [] = []
numbers_text (n ∷ ns) = decimal n ++ more_numbers ns

-- of the i-th test
abbrev pub reach_line : ℕ → Reach → List ℕ
reach_line i r = worded (codes "reach") (worded (decimal i) (worded (state_word r.settled) (numbers_text r.classes)))

abbrev pub kind_word : EdgeKind → List ℕ
kind_word Raw = codes "raw"
kind_word Waw = codes "waw"
kind_word War = codes "war"

-- the numbers and the location
abbrev pub edge_fields : Edge → List ℕ
edge_fields e = worded (decimal e.earlier) (worded (decimal e.later) (worded (decimal e.count) e.first))

abbrev pub edge_line : Edge → List ℕ
edge_line e = worded (kind_word e.kind) (edge_fields e)

abbrev pub end_line : List ℕ
end_line = codes "end"

-- ---- all lines

-- what a record's text says
pub record Said : Type 0 where
  pub digest : List ℕ
  pub units : List ℕ
  pub edges : List Edge
  pub more : Option More

abbrev pub said : Record → Said
said r = record { digest = r.digest; units = r.units; edges = r.edges; more = r.more }

-- 32 bytes
abbrev pub is_hash : List ℕ → Bool
is_hash hash = nat_eq (length hash) 32 && list_all (λ b. nat_lt b 256) hash

-- all sums are such
abbrev pub more_hashes : Option More → Bool
more_hashes None = true
more_hashes (Some m) = is_hash m.suite && list_all is_hash m.classes

abbrev pub has_hashes : Said → Bool
has_hashes s = is_hash s.digest && more_hashes s.more

-- one line for each, numbered from i
abbrev pub numbered : {A : Type 0} → (ℕ → A → List ℕ) → ℕ → List A → List (List ℕ)
numbered line i [] = []
numbered line i (x ∷ xs) = line i x ∷ numbered line (i + 1) xs

-- the suite text and the class files
abbrev pub file_lines : More → List (List ℕ)
file_lines m = suite_line m.suite ∷ classes_line (length m.classes) ∷ numbered class_line 1 m.classes

-- what version 2 adds before and after the units
abbrev pub suite_lines : Option More → List (List ℕ)
suite_lines None = []
suite_lines (Some m) = file_lines m

abbrev pub reach_lines : Option More → List (List ℕ)
reach_lines None = []
reach_lines (Some m) = numbered reach_line 1 m.reach

abbrev pub is_newer : Option More → Bool
is_newer None = false
is_newer (Some m) = true

-- the first three lines
abbrev pub head_lines : Said → List (List ℕ)
head_lines s = header_line (is_newer s.more) ∷ digest_line s.digest ∷ tests_line (length s.units) ∷ []

-- the lines of a record
unfoldable pub lines_of : Said → List (List ℕ)
lines_of s = head_lines s ++ (suite_lines s.more ++ (numbered units_line 1 s.units ++ (reach_lines s.more ++ (map edge_line s.edges ++ end_line ∷ []))))

abbrev pub record_text : Record → List ℕ
record_text r = text_of (lines_of (said r))
