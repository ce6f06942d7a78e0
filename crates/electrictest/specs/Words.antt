-- What the words of a command line ask for (this project's).
use Rattle.std.specs.Prelude.{◌≡◌, ℕ, ◌<◌, ◌≤◌, ◌==◌, List, [], ◌∷◌, get_or, codes, drop, Bool, true, false, not, ◌&&◌, Option, Some, None, option_and_then, Result, Ok, Err, if◌then◌else◌}
use Rattle.std.specs.Str.{bytes_eq}
use Rattle.suite_load.specs.NameForms.{is_depot_name}
use Rattle.dep_record.specs.Fields.{number_up_to}
use Rattle.electrictest.specs.declared.{status.Status.Status, words.Command.Command, words.WordsFault.WordsFault}
use Rattle.electrictest.specs.declared.status.Status.TheVariants as ends
use Rattle.electrictest.specs.declared.status.InputFault.TheVariants as input
use Rattle.electrictest.specs.declared.words.Command.TheVariants as command
use Rattle.electrictest.specs.declared.words.WordsFault.TheVariants as fault

-- what words ask for, or why they ask for nothing
abbrev pub Asking : Type 0
Asking = Result Command WordsFault

-- words in no form
abbrev pub unformed : Asking
unformed = Err fault.NoForm

-- a number that isn't 0
abbrev pub from_one : ℕ → Option ℕ
from_one n = if n == 0 then None else Some n

-- a count from 1 up: decimal, without sign or leading zero
abbrev pub count_up_to : ℕ → List ℕ → Option ℕ
count_up_to most word = option_and_then from_one (number_up_to most word)

-- a number of workers, and of generated tests
abbrev pub workers_of : List ℕ → Option ℕ
workers_of word = count_up_to 16 word

abbrev pub tests_of : List ℕ → Option ℕ
tests_of word = count_up_to 1024 word

-- what is asked for with such a number
abbrev pub with_count : Option ℕ → (ℕ → Asking) → Asking
with_count None f = unformed
with_count (Some n) f = f n

-- what is asked for with a record; `-` is none
abbrev pub with_record : List ℕ → Command → Asking
with_record r c = if bytes_eq r (codes "-") then Err fault.NeedsRecord else (if is_depot_name r then Ok c else unformed)

-- the words of a run without a record: that of the whole suite, by one worker
abbrev pub is_whole : List ℕ → ℕ → List ℕ → Bool → Bool
is_whole r n selection log = bytes_eq r (codes "-") && (n == 1 && (bytes_eq selection (codes "all") && not log))

-- a run, and whether a log is asked for
abbrev pub run_of : List ℕ → List ℕ → Bool → ℕ → Asking
run_of r selection log n = if is_whole r n selection log then Ok command.Whole else with_record r (command.Run n log)

-- this command, and a suite
abbrev pub is_of_suite : List ℕ → List ℕ → List ℕ → Bool
is_of_suite a word b = bytes_eq a word && is_depot_name b

-- `detect SUITE`, `deps SUITE`, or `quiet SUITE`
abbrev pub two_words : List ℕ → List ℕ → Asking
two_words a b =
    if is_of_suite a (codes "detect") b then Ok command.Detect
    else (if is_of_suite a (codes "deps") b then Ok (command.Deps false)
    else (if is_of_suite a (codes "quiet") b then Ok command.Quiet else unformed))

-- `gen K N`
abbrev pub gen_of : List ℕ → List ℕ → Asking
gen_of b c = with_count (tests_of b) (λ k. with_count (workers_of c) (λ n. Ok (command.Gen k n)))

-- that, `deps SUITE json`, `impact SUITE RECORD` or `manifest SUITE RECORD`; the last two have no form without a record
abbrev pub three_words : List ℕ → List ℕ → List ℕ → Asking
three_words a b c =
    if is_of_suite a (codes "deps") b && bytes_eq c (codes "json") then Ok (command.Deps true)
    else (if is_of_suite a (codes "impact") b && is_depot_name c then Ok command.Impact
    else (if is_of_suite a (codes "manifest") b && is_depot_name c then Ok command.Manifest
    else (if bytes_eq a (codes "gen") then gen_of b c else unformed)))

-- `order SUITE RECORD ORDER`
abbrev pub four_words : List ℕ → List ℕ → List ℕ → Asking
four_words a b c = if is_of_suite a (codes "order") b then with_record c command.Order else unformed

-- `plan SUITE RECORD N SEL`; `cones SUITE RECORD N SEL`, which has no form without a record; and `run SUITE RECORD N SEL`, with a
-- log or without
abbrev pub plan_in : List ℕ → List ℕ → Asking
plan_in c d = with_count (workers_of d) (λ n. with_record c (command.Plan n))

abbrev pub cones_in : List ℕ → List ℕ → Asking
cones_in c d = with_count (workers_of d) (λ n. if is_depot_name c then Ok (command.Cones n) else unformed)

abbrev pub run_in : List ℕ → List ℕ → List ℕ → Bool → Asking
run_in c d e log = with_count (workers_of d) (run_of c e log)

abbrev pub five_words : List ℕ → List ℕ → List ℕ → List ℕ → List ℕ → Asking
five_words a b c d e =
    if is_of_suite a (codes "plan") b then plan_in c d
    else (if is_of_suite a (codes "cones") b then cones_in c d
    else (if is_of_suite a (codes "run") b then run_in c d e false else unformed))

-- `run SUITE RECORD N SEL log`
abbrev pub six_words : List ℕ → List ℕ → List ℕ → List ℕ → List ℕ → List ℕ → Asking
six_words a b c d e f = if is_of_suite a (codes "run") b && bytes_eq f (codes "log") then run_in c d e true else unformed

-- what the words of a form ask for
unfoldable pub form_of : List (List ℕ) → Asking
form_of (a ∷ b ∷ []) = two_words a b
form_of (a ∷ b ∷ c ∷ []) = three_words a b c
form_of (a ∷ b ∷ c ∷ d ∷ []) = four_words a b c
form_of (a ∷ b ∷ c ∷ d ∷ e ∷ []) = five_words a b c d e
form_of (a ∷ b ∷ c ∷ d ∷ e ∷ f ∷ []) = six_words a b c d e f
form_of _ = unformed

-- ---- which commands are asked for in which way

-- those that wait for threads
abbrev pub waits : Command → Bool
waits (command.Run n log) = true
waits (command.Cones n) = true
waits (command.Gen k n) = true
waits _ = false

-- those that have an eager form: they run the tests of a suite, or plan them
abbrev pub has_eager : Command → Bool
has_eager command.Whole = true
has_eager (command.Run n log) = true
has_eager command.Detect = true
has_eager (command.Deps json) = true
has_eager command.Order = true
has_eager (command.Plan n) = true
has_eager _ = false

-- what is asked for, where it is such a command
abbrev pub only : (Command → Bool) → Asking → Asking
only is_such (Ok c) = if is_such c then Ok c else unformed
only is_such (Err f) = Err f

-- `eager` stands before the words of a form
abbrev pub is_eager : List (List ℕ) → Bool
is_eager [] = false
is_eager (a ∷ rest) = bytes_eq a (codes "eager")

-- the words of the form itself
abbrev pub form_words : List (List ℕ) → List (List ℕ)
form_words words = if is_eager words then drop 1 words else words

-- what the words ask for
abbrev pub command_of : List (List ℕ) → Asking
command_of words = if is_eager words then only has_eager (form_of (form_words words)) else form_of words

-- of that, what is served without threads
abbrev pub plain_of : Asking → Asking
plain_of asking = only (λ c. not (waits c)) asking

-- a number of workers isn't 0, and one of generated tests is from 1 to 1,024
abbrev pub HasWorkers : Asking → Type 0
HasWorkers (Ok (command.Run n log)) = 0 < n
HasWorkers (Ok (command.Plan n)) = 0 < n
HasWorkers (Ok (command.Cones n)) = (0 < n) × (n ≤ 16)
HasWorkers (Ok (command.Gen k n)) = (0 < k) × (k ≤ 1024) × (0 < n)
HasWorkers _ = Unit {0}

-- what is served without threads
abbrev pub IsServed : Asking → Type 0
IsServed (Ok c) = waits c ≡ false
IsServed (Err f) = Unit {0}

-- what isn't asked of a generated suite
abbrev pub IsOverSuite : Asking → Type 0
IsOverSuite (Ok (command.Gen k n)) = ⊥
IsOverSuite _ = Unit {0}

-- What a call is asked for: the command that is served, or why there is none, and the words.
pub record Ask : Type 0 where
  pub command : Asking
  pub words : List (List ℕ)

abbrev pub ask : Asking → List (List ℕ) → Ask
ask asking words = record { command = asking; words = words }

-- what is asked for, and what of it without threads
abbrev pub threaded : List (List ℕ) → Ask
threaded words = ask (command_of words) words

abbrev pub plain : List (List ℕ) → Ask
plain words = ask (plain_of (command_of words)) words

-- the word of the form at this place, counted from 0
abbrev pub word_at : List (List ℕ) → ℕ → List ℕ
word_at words i = get_or (form_words words) i []

-- how words are answered that ask for nothing
abbrev pub fault_status : WordsFault → Status
fault_status fault.NoForm = ends.Words
fault_status fault.NeedsRecord = ends.Input input.NeedsRecord

abbrev pub refusal_of : Asking → Option Status
refusal_of (Ok c) = None
refusal_of (Err f) = Some (fault_status f)

-- the suite's name, or the refusal of words that ask for nothing; a generated suite is none of a depot
abbrev pub suite_named : Asking → List (List ℕ) → Option (Result (List ℕ) Status)
suite_named (Ok (command.Gen k n)) words = None
suite_named (Ok c) words = Some (Ok (word_at words 1))
suite_named (Err f) words = Some (Err (fault_status f))

abbrev pub suite_word : Ask → Option (Result (List ℕ) Status)
suite_word a = suite_named a.command a.words

-- so it is where the words are those of a generated suite
abbrev pub OfGenerated : Asking → (ℕ → ℕ → Type 0) → Type 0
OfGenerated asking Is = (k n : ℕ) → asking ≡ Ok (command.Gen k n) → Is k n
