-- The lines of a report on one test, and the texts of locations (this project's).
use Rattle.std.specs.Prelude.{ℕ, List, [], ◌∷◌, ◌++◌, ◌+◌, ◌-◌, get_or, map, length, count_by, codes, decimal, Bool, true, false, cond, nat_lt, Option, Some, None}
use Rattle.et_base.specs.Quotes.{quoted_units, quoted_bytes, name_of}
use Rattle.jvm_model.specs.declared.{values.Location.Location, outcome.Cause.Cause, outcome.Outcome.Outcome, outcome.Verdict.Verdict}
use Rattle.jvm_model.specs.declared.values.Location.TheVariants as place
use Rattle.jvm_model.specs.declared.outcome.Verdict.TheVariants.{Passed, Failed, Error}
use Rattle.jvm_model.specs.{declared.program.Names.Names, declared.program.Program.Program, Classes.class_at, Classes.field_at}

abbrev pub message_text : Option (List ℕ) → List ℕ
message_text None = []
message_text (Some t) = 32 ∷ quoted_units t

-- the class, and the message where there is one
abbrev pub cause_text : Names → Cause → List ℕ
cause_text names c = get_or names.classes c.class [] ++ message_text c.message

abbrev pub verdict_text : Names → Verdict → List ℕ
verdict_text names Passed = codes "passed"
verdict_text names (Failed c) = codes "failed " ++ cause_text names c
verdict_text names (Error c) = codes "error " ++ cause_text names c

-- `test I NAME VERDICT units U`
abbrev pub test_line : Names → ℕ → Outcome → List ℕ
test_line names t o = codes "test " ++ (decimal t ++ (32 ∷ (get_or names.tests (t - 1) [] ++ (32 ∷ (verdict_text names o.verdict ++ (codes " units " ++ (decimal o.units ++ (10 ∷ []))))))))

-- `out QUOTED`, where the output isn't empty
abbrev pub out_line : List ℕ → List ℕ
out_line [] = []
out_line (b ∷ bs) = codes "out " ++ (quoted_bytes (b ∷ bs) ++ (10 ∷ []))

-- the lines of test t
unfoldable pub outcome_lines : Names → ℕ → Outcome → List ℕ
outcome_lines names t o = test_line names t o ++ out_line o.output

-- `passed P failed F error E`
unfoldable pub count_line : ℕ → ℕ → ℕ → List ℕ
count_line p f e = codes "passed " ++ (decimal p ++ (codes " failed " ++ (decimal f ++ (codes " error " ++ (decimal e ++ (10 ∷ []))))))

abbrev pub is_passed : Outcome → Bool
is_passed o = elim o.verdict [ Passed ↦ true | Failed c ↦ false | Error c ↦ false ]

abbrev pub is_failed : Outcome → Bool
is_failed o = elim o.verdict [ Passed ↦ false | Failed c ↦ true | Error c ↦ false ]

abbrev pub is_error : Outcome → Bool
is_error o = elim o.verdict [ Passed ↦ false | Failed c ↦ false | Error c ↦ true ]

-- the lines of tests by their numbers
abbrev pub test_lines : Names → List (ℕ × Outcome) → List ℕ
test_lines names [] = []
test_lines names (x ∷ xs) = outcome_lines names x.0 x.1 ++ test_lines names xs

-- the number of chains, or `-`
abbrev pub chains_text : Option ℕ → List ℕ
chains_text None = codes "-"
chains_text (Some k) = decimal k

-- `selected S executed C chains K`
abbrev pub head_line : ℕ → ℕ → Option ℕ → List ℕ
head_line s c k = codes "selected " ++ (decimal s ++ (codes " executed " ++ (decimal c ++ (codes " chains " ++ (chains_text k ++ (10 ∷ []))))))

abbrev pub verdict_line : List Outcome → List ℕ
verdict_line os = count_line (count_by is_passed os) (count_by is_failed os) (count_by is_error os)

-- the report on tests by their numbers, of which so many were selected, in so many chains
unfoldable pub report_on : Names → ℕ → Option ℕ → List (ℕ × Outcome) → List ℕ
report_on names selected chains xs = codes "electric-run 1" ++ (10 ∷ (head_line selected (length xs) chains ++ (test_lines names xs ++ verdict_line (map (λ x. x.1) xs))))

-- An object by its test and its number within the test, both from 1: the numbers of objects that each test made, in
-- order, beginning with test t.
abbrev pub maker : ℕ → List ℕ → ℕ → ℕ × ℕ
maker t [] o = (t, o + 1)
maker t (n ∷ ns) o = cond (nat_lt o n) (t, o + 1) (maker (t + 1) ns (o - n))

-- `T:K`
abbrev pub object_text : ℕ × ℕ → List ℕ
object_text x = decimal x.0 ++ (58 ∷ decimal x.1)

abbrev pub class_text : Program → ℕ → List ℕ
class_text p c = name_of (class_at p c).name

-- `CLASS.FIELD`, the declaring class
abbrev pub field_text : Program → ℕ → List ℕ
field_text p f = class_text p (field_at p f).class ++ (46 ∷ name_of (field_at p f).name)

-- the text of a location, where each object is named by `owner`
unfoldable pub location_text : Program → (ℕ → ℕ × ℕ) → Location → List ℕ
location_text p owner (place.Static f) = codes "static " ++ field_text p f
location_text p owner (place.Init c) = codes "init " ++ class_text p c
location_text p owner (place.Head o) = codes "head " ++ object_text (owner o)
location_text p owner (place.Field o f) = codes "field " ++ (object_text (owner o) ++ (32 ∷ field_text p f))
location_text p owner (place.Elem o i) = codes "elem " ++ (object_text (owner o) ++ (32 ∷ decimal i))
location_text p owner (place.Text o) = codes "text " ++ object_text (owner o)
location_text p owner (place.File n) = codes "file " ++ quoted_units n
location_text p owner (place.Prop n) = codes "prop " ++ quoted_units n
