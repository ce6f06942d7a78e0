-- The form of a suite text (this project's): its lines, what each says, and the first faulty one.
use Rattle.std.specs.Prelude.{◌≡◌, ℕ, ℤ, ◌+◌, ◌==◌, ◌&&◌, not, Bool, false, List, [], ◌∷◌, ◌++◌, length, map, fold, Option, Some, None, Result, Ok, Err, nat_le, nat_lt, codes, if◌then◌else◌}
use Rattle.std.specs.{Option.ok_or, Str.bytes_eq, List.list_all, List.list_any, List.before_last, List.after_last}
use Rattle.dep_record.specs.Fields.{is_printable}
use Rattle.suite_load.specs.declared.suite_text.{SuiteText.SuiteText, TestLine.TestLine, SuiteRefusal.SuiteRefusal, Why.Why}
use Rattle.suite_load.specs.declared.suite_text.SuiteRefusal.TheVariants as refusals
use Rattle.suite_load.specs.declared.suite_text.Why.TheVariants as why
use Rattle.suite_load.specs.declared.{suite_line.SuiteLine.SuiteLine, first_word.FirstWord.FirstWord}
use Rattle.suite_load.specs.declared.suite_line.SuiteLine.TheVariants.{Header, Budget, Class, File, Test, End}
use Rattle.suite_load.specs.declared.first_word.FirstWord.TheVariants as words
use Rattle.suite_load.specs.LineForms.{Row, rows, cut, first_row, rest_of}
use Rattle.suite_load.specs.NameForms.{is_depot_name, is_file_name, is_test_name}
use Rattle.suite_load.specs.{NumberForms.budget_of, NumberForms.clock_of, NumberForms.seed_of, ContentForm.content_of, Reading.◌>>=◌, Reading.tested}

-- what a line adds to what the lines before it say
abbrev pub added : SuiteText → SuiteLine → SuiteText
added suite Header = suite
added suite (Budget units) = record suite { budget = units }
added suite (Class name) = record suite { classes = suite.classes ++ name ∷ [] }
added suite (File name content) = record suite { files = suite.files ++ record { name = name; content = content } ∷ [] }
added suite (Test test) = record suite { tests = suite.tests ++ test ∷ [] }
added suite End = suite

-- what a text without lines says: a test may take 1,000,000 units
abbrev pub empty_suite : SuiteText
empty_suite = record { budget = 1000000; classes = []; files = []; tests = [] }

-- what lines say
unfoldable pub suite_from : List SuiteLine → SuiteText
suite_from lines = fold added empty_suite lines

-- the names that class, file and test lines give
abbrev pub class_names : List SuiteLine → List (List ℕ)
class_names lines = (suite_from lines).classes

abbrev pub file_names : List SuiteLine → List (List ℕ)
file_names lines = map (λ f. f.name) (suite_from lines).files

abbrev pub test_names : List SuiteLine → List (List ℕ)
test_names lines = map (λ t. t.name) (suite_from lines).tests

-- lines stand in the order of their places
abbrev pub place_of : SuiteLine → ℕ
place_of Header = 0
place_of (Budget units) = 1
place_of (Class name) = 2
place_of (File name content) = 3
place_of (Test test) = 4
place_of End = 5

-- no line before has a place after this one
unfoldable pub is_in_order : List SuiteLine → ℕ → Bool
is_in_order before place = list_all (λ l. nat_le (place_of l) place) before

-- the name of a line isn't among those of its kind
abbrev pub IsNewAmong : List (List ℕ) → List (List ℕ) → List (List ℕ) → SuiteLine → Type 0
IsNewAmong classes files tests Header = Unit {0}
IsNewAmong classes files tests (Budget units) = Unit {0}
IsNewAmong classes files tests (Class name) = list_any (bytes_eq name) classes ≡ false
IsNewAmong classes files tests (File name content) = list_any (bytes_eq name) files ≡ false
IsNewAmong classes files tests (Test test) = list_any (bytes_eq test.name) tests ≡ false
IsNewAmong classes files tests End = Unit {0}

-- the name of a line stands in no line of its kind
abbrev pub IsNew : List SuiteLine → SuiteLine → Type 0
IsNew before line = IsNewAmong (class_names before) (file_names before) (test_names before) line

-- Each definition below judges the line that follows good lines. Its number is one more than theirs.
abbrev pub fault : List SuiteLine → Why → SuiteRefusal
fault before y = refusals.Suite (length before + 1) y

-- a name that stands already, then a name after 1,024
unfoldable pub fresh : List SuiteLine → List (List ℕ) → List ℕ → Result (Unit {0}) SuiteRefusal
fresh before names name = do
  new ← tested (not (list_any (bytes_eq name) names)) (fault before why.Twice)
  tested (nat_lt (length names) 1024) (fault before why.TooMany)

-- the fields after the first word are parted by single spaces; 32 is the space
unfoldable pub one_field : List SuiteLine → Option (List ℕ) → Result (List ℕ) SuiteRefusal
one_field before None = Err (fault before why.Form)
one_field before (Some bytes) = if list_any (λ b. b == 32) bytes then Err (fault before why.Form) else Ok bytes

-- the header's word after line 1
unfoldable pub second_header : List SuiteLine → Option (List ℕ) → Result SuiteLine SuiteRefusal
second_header before rest = do
  field ← one_field before rest
  Err (fault before why.Order)

-- `budget B`, after the header alone
unfoldable pub budget_line : List SuiteLine → Option (List ℕ) → Result SuiteLine SuiteRefusal
budget_line before rest = do
  digits ← one_field before rest
  ordered ← tested (is_in_order before 0) (fault before why.Order)
  units ← ok_or (budget_of digits) (fault before why.Number)
  Ok (Budget units)

-- the order of lines, then the form of the name
unfoldable pub placed : List SuiteLine → ℕ → Bool → Result (Unit {0}) SuiteRefusal
placed before place is_named = do
  ordered ← tested (is_in_order before place) (fault before why.Order)
  tested is_named (fault before why.Name)

-- `class DEPOTNAME`
unfoldable pub class_name : List SuiteLine → Option (List ℕ) → Result (List ℕ) SuiteRefusal
class_name before rest = do
  name ← one_field before rest
  right ← placed before 2 (is_depot_name name)
  new ← fresh before (class_names before) name
  Ok name

unfoldable pub class_line : List SuiteLine → Option (List ℕ) → Result SuiteLine SuiteRefusal
class_line before rest = class_name before rest >>= λ name. Ok (Class name)

-- `file NAME TEXT`, where TEXT is what follows the second space, whatever it is
unfoldable pub file_fields : List SuiteLine → Option (List ℕ) → Result (List ℕ × List ℕ) SuiteRefusal
file_fields before rest = do
  bytes ← ok_or rest (fault before why.Form)
  text ← ok_or (cut 32 bytes).1 (fault before why.Form)
  Ok ((cut 32 bytes).0, text)

unfoldable pub file_line : List SuiteLine → Option (List ℕ) → Result SuiteLine SuiteRefusal
file_line before rest = do
  fields ← file_fields before rest
  right ← placed before 3 (is_file_name fields.0)
  content ← ok_or (content_of fields.1) (fault before why.Number)
  new ← fresh before (file_names before) fields.0
  Ok (File fields.0 content)

-- the texts of a test's clock and seed
unfoldable pub stream_fields : List SuiteLine → Option (List ℕ) → Result (List ℕ × List ℕ) SuiteRefusal
stream_fields before None = Ok (codes "0", codes "0")
stream_fields before (Some bytes) = one_field before (cut 32 bytes).1 >>= λ seed. Ok ((cut 32 bytes).0, seed)

-- the class's internal name has `/` for each dot
abbrev pub slash_for_dot : ℕ → ℕ
slash_for_dot b = if b == 46 then 47 else b

unfoldable pub test_class : List ℕ → List ℕ
test_class name = map slash_for_dot (before_last (λ b. b == 46) name)

unfoldable pub test_method : List ℕ → List ℕ
test_method name = after_last (λ b. b == 46) name

unfoldable pub test_from : ℕ → List ℕ → ℤ → ℕ → TestLine
test_from line name clock seed = record { line = line; name = name; class = test_class name; method = test_method name; clock = clock; seed = seed }

-- the clock, then the seed
unfoldable pub stream_of : List SuiteLine → List ℕ × List ℕ → Result (ℤ × ℕ) SuiteRefusal
stream_of before fields = do
  clock ← ok_or (clock_of fields.0) (fault before why.Number)
  seed ← ok_or (seed_of fields.1) (fault before why.Number)
  Ok (clock, seed)

unfoldable pub test_of : List SuiteLine → List ℕ → List ℕ × List ℕ → Result TestLine SuiteRefusal
test_of before name fields = do
  right ← placed before 4 (is_test_name name)
  stream ← stream_of before fields
  new ← fresh before (test_names before) name
  Ok (test_from (length before + 1) name stream.0 stream.1)

-- `test NAME` or `test NAME CLOCK SEED`; clock and seed are 0 where they aren't given
unfoldable pub test_line : List SuiteLine → Option (List ℕ) → Result SuiteLine SuiteRefusal
test_line before rest = do
  bytes ← ok_or rest (fault before why.Form)
  fields ← stream_fields before (cut 32 bytes).1
  test ← test_of before (cut 32 bytes).0 fields
  Ok (Test test)

-- `end`
unfoldable pub end_line : List SuiteLine → Option (List ℕ) → Result SuiteLine SuiteRefusal
end_line before None = Ok End
end_line before (Some bytes) = Err (fault before why.Form)

-- the kind of line that a first word begins
unfoldable pub first_word : List ℕ → FirstWord
first_word word =
    if bytes_eq word (codes "electric-suite") then words.Header
    else (if bytes_eq word (codes "budget") then words.Budget
    else (if bytes_eq word (codes "class") then words.Class
    else (if bytes_eq word (codes "file") then words.File
    else (if bytes_eq word (codes "test") then words.Test
    else (if bytes_eq word (codes "end") then words.End
    else words.Other)))))

-- a line of a kind, with what follows the first word
unfoldable pub line_of : FirstWord → List SuiteLine → Option (List ℕ) → Result SuiteLine SuiteRefusal
line_of words.Header before rest = second_header before rest
line_of words.Budget before rest = budget_line before rest
line_of words.Class before rest = class_line before rest
line_of words.File before rest = file_line before rest
line_of words.Test before rest = test_line before rest
line_of words.End before rest = end_line before rest
line_of words.Other before rest = Err (fault before why.Form)

-- a line by its first word
abbrev pub worded_line : List SuiteLine → List ℕ → Result SuiteLine SuiteRefusal
worded_line before bytes = line_of (first_word (cut 32 bytes).0) before (cut 32 bytes).1

abbrev pub is_end : SuiteLine → Bool
is_end line = place_of line == 5

unfoldable pub is_ended : List SuiteLine → Bool
is_ended before = list_any is_end before

-- a line feed ends the line, it doesn't follow the end, and its bytes are printable
abbrev pub is_formed : List SuiteLine → Row → Bool
is_formed before row = row.ended && not (is_ended before) && list_all is_printable row.bytes

-- a line after the first
unfoldable pub later_line : List SuiteLine → Row → Result SuiteLine SuiteRefusal
later_line before row = do
  formed ← tested (is_formed before row) (fault before why.Form)
  worded_line before row.bytes

-- line 1 is the header
unfoldable pub first_line : List SuiteLine → Row → Result SuiteLine SuiteRefusal
first_line before row = do
  header ← tested (bytes_eq row.bytes (codes "electric-suite 1")) (fault before why.Header)
  formed ← tested row.ended (fault before why.Form)
  Ok Header

unfoldable pub next_line : List SuiteLine → Row → Result SuiteLine SuiteRefusal
next_line before row = if length before == 0 then first_line before row else later_line before row

-- what is wrong with a line that is missing
abbrev pub missing : List SuiteLine → Why
missing before = if length before == 0 then why.Header else why.Form

-- after the last line nothing is missing
unfoldable pub whole : List SuiteLine → Result (List SuiteLine) SuiteRefusal
whole before = do
  ended ← tested (is_ended before) (fault before (missing before))
  Ok before

-- the good lines before and those after them, or the first faulty one
abbrev pub lines_from : List SuiteLine → List Row → Result (List SuiteLine) SuiteRefusal
lines_from before [] = whole before
lines_from before (row ∷ more) = next_line before row >>= λ line. lines_from (before ++ line ∷ []) more

-- the first line of a text, and the text after it
abbrev pub line_at : List SuiteLine → List ℕ → Result (SuiteLine × List ℕ) SuiteRefusal
line_at before text = next_line before (first_row text) >>= λ line. Ok (line, rest_of text)

-- what a suite text says, or its first faulty line and what is wrong with it
unfoldable pub suite_of : List ℕ → Result SuiteText SuiteRefusal
suite_of text = lines_from [] (rows text) >>= λ lines. Ok (suite_from lines)
