-- Reading a record's text line by line, each line by the good ones before it (this project's). What is found goes with what is left; else the
-- number of the first faulty line is given. A line that no line feed ends is faulty, and one that is missing has the number after the last.
use Rattle.std.specs.Prelude.{ℕ, zero, suc, ◌+◌, ◌-◌, ◌==◌, Bool, true, false, List, [], ◌∷◌, length, slice_get, codes, Option, Some, None, Result, Ok, Err, if◌then◌else◌}
use Rattle.std.specs.{Option.ok_or, List.slice_split, Str.bytes_eq}
use Rattle.et_base.specs.Answers as answers
pub use Rattle.et_base.specs.Answers.{◌>>=◌}
use Rattle.et_base.specs.Answers.{tested}
use Rattle.order_law.specs.declared.edges.Edge.{Edge}
use Rattle.dep_record.specs.RecordText.{Said}
use Rattle.dep_record.specs.Fields.{header_of, hash_after, number_after, class_of, units_of, reach_of, next_edge}
use Rattle.dep_record.specs.declared.refusal.{RecordRefusal.RecordRefusal, RecordRefusal.TheVariants.RecordFault, RecordRefusal.TheVariants.NoMemory}

-- what stands before, between and after line feeds, 10: the lines, and at last what no line feed ends
abbrev pub pieces : List ℕ → List (List ℕ)
pieces text = slice_split (λ b. b == 10) text

-- line n, and what is left after it
abbrev pub next_line : ℕ → List (List ℕ) → Result (List ℕ × List (List ℕ)) ℕ
next_line n [] = Err n
next_line n (line ∷ rest) = if length rest == 0 then Err n else Ok (line, rest)

-- what line n says, if it is one of those
abbrev pub line_by : {A : Type 0} → (List ℕ → Option A) → ℕ → List (List ℕ) → Result (A × List (List ℕ)) ℕ
line_by says n left = next_line n left >>= λ x. ok_or (says x.0) n >>= λ found. Ok (found, x.1)

-- what so many lines from line n on say, numbered from i
abbrev pub lines_by : {A : Type 0} → (ℕ → List ℕ → Option A) → ℕ → ℕ → ℕ → List (List ℕ) → Result (List A × List (List ℕ)) ℕ
lines_by says zero i n left = Ok ([], left)
lines_by says (suc count) i n left = do
  x ← line_by (says i) n left
  more ← lines_by says count (i + 1) (n + 1) x.1
  Ok (x.0 ∷ more.0, more.1)

-- nothing follows the last line feed
abbrev pub is_over : List (List ℕ) → Bool
is_over ([] ∷ []) = true
is_over _ = false

-- conflicts of so many tests from line n on, each after the one before, then `end` and nothing after it
abbrev pub edges_from : ℕ → Option Edge → ℕ → List (List ℕ) → Result (List Edge) ℕ
edges_from tests before n [] = Err n
edges_from tests before n (line ∷ rest) =
    if length rest == 0 then Err n
    else (if bytes_eq line (codes "end") then (if is_over rest then Ok [] else Err (n + 1))
    else (ok_or (next_edge tests before line) n >>= λ e. edges_from tests (Some e) (n + 1) rest >>= λ es. Ok (e ∷ es)))

-- the last one so far
abbrev pub last_of : List Edge → Option Edge
last_of edges = slice_get edges (length edges - 1)

-- line n as a conflict, with what is left, or as the end
unfoldable pub next_step : ℕ → Option Edge → ℕ → List (List ℕ) → Result (Option (Edge × List (List ℕ))) ℕ
next_step tests before n left = do
  x ← next_line n left
  if bytes_eq x.0 (codes "end") then (tested (is_over x.1) (n + 1) >>= λ _. Ok None)
      else (ok_or (next_edge tests before x.0) n >>= λ e. Ok (Some (e, x.1)))

-- the lines of version 1 after the third, with so many tests
unfoldable pub older_in : List ℕ → ℕ → List (List ℕ) → Result Said ℕ
older_in digest tests left = do
  units ← lines_by units_of tests 1 4 left
  edges ← edges_from tests None (4 + tests) units.1
  Ok (record { digest = digest; units = units.0; edges = edges; more = None })

-- the lines of version 2 after the fifth, with so many classes
unfoldable pub classes_in : List ℕ → ℕ → List ℕ → ℕ → List (List ℕ) → Result Said ℕ
classes_in digest tests suite count left = do
  classes ← lines_by class_of count 1 6 left
  units ← lines_by units_of tests 1 (6 + count) classes.1
  reach ← lines_by (reach_of count) tests 1 (6 + count + tests) units.1
  edges ← edges_from tests None (6 + count + tests + tests) reach.1
  Ok (record { digest = digest; units = units.0; edges = edges; more = Some (record { suite = suite; classes = classes.0; reach = reach.0 }) })

-- the lines of version 2 after the third
unfoldable pub newer_in : List ℕ → ℕ → List (List ℕ) → Result Said ℕ
newer_in digest tests left = do
  suite ← line_by (hash_after (codes "suite")) 4 left
  count ← line_by (number_after 1024 (codes "classes")) 5 suite.1
  classes_in digest tests suite.0 count.0 count.1

-- what the text of a record says, or its first faulty line
unfoldable pub said_in : List ℕ → Result Said ℕ
said_in text = do
  newer ← line_by header_of 1 (pieces text)
  digest ← line_by (hash_after (codes "digest")) 2 newer.1
  tests ← line_by (number_after 1024 (codes "tests")) 3 digest.1
  if newer.0 then newer_in digest.0 tests.0 tests.1 else older_in digest.0 tests.0 tests.1

-- ---- answers

-- the faulty line that a refusal names
abbrev pub names : RecordRefusal → Option ℕ
names NoMemory = None
names (RecordFault line) = Some line

-- What a function returned, seen by view, is what reading gives, unless memory ran out.
abbrev pub Gives : {X Y : Type 0} → (X → Y) → Result X RecordRefusal → Result Y ℕ → Type 0
Gives view result read = answers.Gives names view result read

abbrev pub same : {X : Type 0} → X → X
same x = x
