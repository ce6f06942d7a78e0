-- What good lines say is in the form that linking asks for.
use Rattle.std.proofs.Common.{◌≡◌, ℕ, ℤ, ◌+◌, ◌<◌, ◌≤◌, Bool, true, false, not, List, [], ◌∷◌, ◌++◌, length, map, get_or, eqb, Option, Some, None, Result, Ok, refl, sym, ap, ◌∙◌, subst, inl, inr, arith}
use Rattle.std.specs.Prelude.{codes}
use Rattle.std.specs.{Option.ok_or, List.list_all, List.list_any, Str.bytes_eq}
use Rattle.std.proofs.lemmas.Bool.{and_from, not-true, ltb-true, both_ways, cases_lt}
use Rattle.std.proofs.lemmas.List.{length-map, length_push, map_push, get_or-map, get_or_append_left, get_or_push}
use Rattle.std.proofs.{lemmas.List.Folds.list_all-append, lemmas.List.Folds.list_any_at, lemmas.Slice.Eq.bytes_eq-Decides}
use Rattle.jvm_model.specs.Suite.{suite_limit}
use Rattle.class_link.specs.Link.{AreLines, AreDifferent}
use Rattle.class_link.specs.Link as link
use Rattle.suite_load.specs.declared.{suite_line.SuiteLine.SuiteLine, suite_text.SuiteText.SuiteText, suite_text.FileLine.FileLine}
use Rattle.suite_load.specs.declared.suite_line.SuiteLine.TheVariants.{Header, Budget, Class, File, Test, End}
use Rattle.suite_load.specs.declared.{suite_text.TestLine.TestLine, suite_text.SuiteRefusal.SuiteRefusal, first_word.FirstWord.FirstWord}
use Rattle.suite_load.specs.declared.suite_text.Why.TheVariants as why
use Rattle.suite_load.specs.{ContentForm.content_of, NameForms.is_test_name, NumberForms.budget_of, Reading.tested}
use Rattle.suite_load.specs.declared.first_word.FirstWord.TheVariants as words
use Rattle.suite_load.specs.LineForms.{Row, rows, cut}
use Rattle.suite_load.specs.SuiteForm.{added, suite_from, class_names, file_names, test_names, fault, fresh, one_field, is_in_order, placed, second_header, budget_line, class_name, class_line, file_fields, file_line, stream_fields, stream_of, test_from, test_of, test_line, end_line, first_word, line_of, is_formed, later_line, first_line, next_line, is_ended, missing, whole, lines_from, suite_of}
use Rattle.suite_load.specs.Loading as loading
use Rattle.suite_load.proofs.{NumberLaws.budget_bounds, SummaryLaws.suite_more, WordLaws.class_is_words, WordLaws.method_is_word}
use Rattle.suite_load.proofs.ReadingLaws.{went_on, held, was_some}

-- ---- what a line says, behind good lines

abbrev HasWords : TestLine → Type 0
HasWords test = link.is_test_name (loading.line_of test) ≡ true

abbrev Fits : List SuiteLine → SuiteLine → Type 0
Fits before Header = Unit {0}
Fits before (Budget units) = (0 < units) × (units ≤ 67108864)
Fits before (Class name) = length (class_names before) < 1024
Fits before (File name content) = (list_any (bytes_eq name) (file_names before) ≡ false) × (length (file_names before) < 1024)
Fits before (Test test) = (length (test_names before) < 1024) × HasWords test
Fits before End = Unit {0}

same_line : (line found : SuiteLine) → ◌≡◌ {A = Result SuiteLine SuiteRefusal} (Ok found) (Ok line) → found ≡ line
same_line line found h = cc

is_fresh : (before : List SuiteLine) (names : List (List ℕ)) (name : List ℕ) (t : Unit {0}) → fresh before names name ≡ Ok t → (list_any (bytes_eq name) names ≡ false) × (length names < 1024)
unfolding fresh
is_fresh before names name t h =
    let a = went_on (tested (not (list_any (bytes_eq name) names)) (fault before why.Twice)) _ t h in
    (not-true _ (held _ _ a.0 a.1), ltb-true _ _ (held _ _ t a.2))

budget_fits : (before : List SuiteLine) (rest : Option (List ℕ)) (line : SuiteLine) → budget_line before rest ≡ Ok line → Fits before line
unfolding budget_line
budget_fits before rest line h =
    let a = went_on (one_field before rest) _ line h in
    let b = went_on (tested (is_in_order before 0) (fault before why.Order)) _ line a.2 in
    let d = went_on (ok_or (budget_of a.0) (fault before why.Number)) _ line b.2 in
    subst (Fits before) (same_line line (Budget d.0) d.2) (budget_bounds a.0 d.0 (was_some _ _ d.0 d.1))

class_fits : (before : List SuiteLine) (rest : Option (List ℕ)) (line : SuiteLine) → class_line before rest ≡ Ok line → Fits before line
unfolding class_line class_name
class_fits before rest line h =
    let a = went_on (class_name before rest) _ line h in
    let b = went_on (one_field before rest) _ a.0 a.1 in
    let d = went_on (placed before 2 _) _ a.0 b.2 in
    let e = went_on (fresh before (class_names before) b.0) _ a.0 d.2 in
    subst (Fits before) (same_line line (Class a.0) a.2) (is_fresh before (class_names before) b.0 e.0 e.1).1

file_fits : (before : List SuiteLine) (rest : Option (List ℕ)) (line : SuiteLine) → file_line before rest ≡ Ok line → Fits before line
unfolding file_line
file_fits before rest line h =
    let a = went_on (file_fields before rest) _ line h in
    let b = went_on (placed before 3 _) _ line a.2 in
    let d = went_on (ok_or (content_of a.0.1) (fault before why.Number)) _ line b.2 in
    let e = went_on (fresh before (file_names before) a.0.0) _ line d.2 in
    subst (Fits before) (same_line line (File a.0.0 d.0) e.2) (is_fresh before (file_names before) a.0.0 e.0 e.1)

has_words : (number : ℕ) (name : List ℕ) (clock : ℤ) (seed : ℕ) → is_test_name name ≡ true → HasWords (test_from number name clock seed)
unfolding test_from
has_words number name clock seed h = and_from _ _ (method_is_word name h) (class_is_words name h)

test_fits : (before : List SuiteLine) (rest : Option (List ℕ)) (line : SuiteLine) → test_line before rest ≡ Ok line → Fits before line
unfolding test_line test_of placed
test_fits before rest line h =
    let a = went_on (ok_or rest (fault before why.Form)) _ line h in
    let name = (cut 32 a.0).0 in
    let b = went_on (stream_fields before (cut 32 a.0).1) _ line a.2 in
    let t = went_on (test_of before name b.0) _ line b.2 in
    let d = went_on (placed before 4 (is_test_name name)) _ t.0 t.1 in
    let named = went_on (tested (is_in_order before 4) (fault before why.Order)) _ d.0 d.1 in
    let e = went_on (stream_of before b.0) _ t.0 d.2 in
    let f = went_on (fresh before (test_names before) name) _ t.0 e.2 in
    let same : test_from (length before + 1) name e.0.0 e.0.1 ≡ t.0 = cc in
    subst (Fits before) (same_line line (Test t.0) t.2) ((is_fresh before (test_names before) name f.0 f.1).1, subst HasWords same (has_words (length before + 1) name e.0.0 e.0.1 (held _ _ d.0 named.2)))

word_fits : (word : FirstWord) (before : List SuiteLine) (rest : Option (List ℕ)) (line : SuiteLine) → line_of word before rest ≡ Ok line → Fits before line
unfolding line_of second_header end_line
word_fits words.Header before rest line h = let a = went_on (one_field before rest) _ line h in let e = a.2 in absurd cc
word_fits words.Budget before rest line h = budget_fits before rest line h
word_fits words.Class before rest line h = class_fits before rest line h
word_fits words.File before rest line h = file_fits before rest line h
word_fits words.Test before rest line h = test_fits before rest line h
word_fits words.End before None line h = subst (Fits before) (same_line line End h) tt
word_fits words.End before (Some bytes) line h = absurd cc
word_fits words.Other before rest line h = absurd cc

later_fits : (before : List SuiteLine) (row : Row) (line : SuiteLine) → later_line before row ≡ Ok line → Fits before line
unfolding later_line
later_fits before row line h =
    let a = went_on (tested (is_formed before row) (fault before why.Form)) _ line h in
    word_fits (first_word (cut 32 row.bytes).0) before (cut 32 row.bytes).1 line a.2

first_fits : (before : List SuiteLine) (row : Row) (line : SuiteLine) → first_line before row ≡ Ok line → Fits before line
unfolding first_line
first_fits before row line h =
    let a = went_on (tested (bytes_eq row.bytes (codes "electric-suite 1")) (fault before why.Header)) _ line h in
    let b = went_on (tested row.ended (fault before why.Form)) _ line a.2 in
    subst (Fits before) (same_line line Header b.2) tt

next_fits : (before : List SuiteLine) (row : Row) (line : SuiteLine) → next_line before row ≡ Ok line → Fits before line
unfolding next_line
next_fits before row line h = by (eqb (length before) 0) refl
  where
    by : (first : Bool) → eqb (length before) 0 ≡ first → Fits before line
    by true e = first_fits before row line (rw e at h)
    by false e = later_fits before row line (rw e at h)

-- ---- what lines say, with a line more

pub record IsGood (suite : SuiteText) : Type 0 where
  pub few_classes : length suite.classes ≤ 1024
  pub lines : AreLines (loading.lines_of suite)

abbrev pair : FileLine → List ℕ × List ℕ
pair f = (f.name, f.content)

abbrev first : List ℕ × List ℕ → List ℕ
first x = x.0

-- entries of which none has the name
abbrev HasNone : List (List ℕ × List ℕ) → List ℕ → Type 0
HasNone xs name = (i : ℕ) → i < length xs → (get_or xs i ([], [])).0 ≡ name → ⊥

different_push : (xs : List (List ℕ × List ℕ)) (y : List ℕ × List ℕ) → AreDifferent xs ([], []) first → HasNone xs y.0 → AreDifferent (xs ++ y ∷ []) ([], []) first
different_push xs y d none i j h g e = elim (cases_lt i (length xs)) [
  | inl k ↦ elim (cases_lt j (length xs)) [
    | inl l ↦ d i j k l (sym (ap first (get_or_append_left xs (y ∷ []) ([], []) i k)) ∙ e ∙ ap first (get_or_append_left xs (y ∷ []) ([], []) j l))
    | inr l ↦
        let at : length xs ≡ j = omega (arith, length_push xs y) in
        absurd (none i k (sym (ap first (get_or_append_left xs (y ∷ []) ([], []) i k)) ∙ e ∙ ap first (get_or_push xs y ([], []) j at)))
  ]
  | inr k ↦
      let at : length xs ≡ i = omega (arith, length_push xs y) in
      elim (cases_lt j (length xs)) [
        | inl l ↦ absurd (none j l (sym (ap first (get_or_append_left xs (y ∷ []) ([], []) j l)) ∙ sym e ∙ ap first (get_or_push xs y ([], []) i at)))
        | inr l ↦ omega (arith, length_push xs y)
      ]
]

has_none : (files : List FileLine) (name : List ℕ) → list_any (bytes_eq name) (map (λ f. f.name) files) ≡ false → HasNone (map pair files) name
has_none files name new i lt e =
    let none : FileLine = record { name = []; content = [] } in
    let short : i < length files = omega (arith, length-map files pair) in
    let there : i < length (map (λ (f : FileLine). f.name) files) = omega (arith, length-map files (λ (f : FileLine). f.name)) in
    let at : (get_or files i none).name ≡ name = sym (ap first (get_or-map pair files i none ([], []) short)) ∙ e in
    let named = get_or-map (λ (f : FileLine). f.name) files i none [] short ∙ at in
    let same : bytes_eq name (get_or (map (λ (f : FileLine). f.name) files) i []) ≡ true = ap (bytes_eq name) named ∙ (bytes_eq-Decides name name).1 refl in
    both_ways _ new (list_any_at (bytes_eq name) (map (λ (f : FileLine). f.name) files) i [] there same)

good_file : (suite : SuiteText) (name content : List ℕ) → IsGood suite → list_any (bytes_eq name) (map (λ f. f.name) suite.files) ≡ false → length suite.files < 1024 → IsGood (added suite (File name content))
good_file suite name content g new few =
    let file : FileLine = record { name = name; content = content } in
    let more = map_push pair suite.files file in
    record {
      few_classes = g.few_classes;
      lines = record {
        few_tests = g.lines.few_tests;
        few_files = omega (arith, length-map (suite.files ++ file ∷ []) pair, length_push suite.files file);
        names = g.lines.names;
        files = subst (λ xs. AreDifferent xs ([], []) first) (sym more) (different_push (map pair suite.files) (name, content) g.lines.files (has_none suite.files name new));
        budget = g.lines.budget;
      };
    }

good_test : (suite : SuiteText) (test : TestLine) → IsGood suite → length suite.tests < 1024 → HasWords test → IsGood (added suite (Test test))
good_test suite test g few named =
    let more = map_push loading.line_of suite.tests test in
    record {
      few_classes = g.few_classes;
      lines = record {
        few_tests = omega (arith, length-map (suite.tests ++ test ∷ []) loading.line_of, length_push suite.tests test);
        few_files = g.lines.few_files;
        names = ap (list_all link.is_test_name) more ∙ list_all-append link.is_test_name (map loading.line_of suite.tests) (loading.line_of test ∷ []) ∙ and_from _ _ g.lines.names (and_from _ _ named refl);
        files = g.lines.files;
        budget = g.lines.budget;
      };
    }

good_more : (before : List SuiteLine) (line : SuiteLine) → IsGood (suite_from before) → Fits before line → IsGood (added (suite_from before) line)
unfolding suite_limit
good_more before Header g h = g
good_more before (Budget units) g h = record { few_classes = g.few_classes; lines = record { few_tests = g.lines.few_tests; few_files = g.lines.few_files; names = g.lines.names; files = g.lines.files; budget = h } }
good_more before (Class name) g h = record { few_classes = omega (arith, length_push (suite_from before).classes name, h); lines = g.lines }
good_more before (File name content) g h = good_file (suite_from before) name content g h.0 (omega (arith, h.1, length-map (suite_from before).files (λ f. f.name)))
good_more before (Test test) g h = good_test (suite_from before) test g (omega (arith, h.0, length-map (suite_from before).tests (λ t. t.name))) h.1
good_more before End g h = g

-- ---- all lines

good_lines : (before : List SuiteLine) (more : List Row) (lines : List SuiteLine) → lines_from before more ≡ Ok lines → IsGood (suite_from before) → IsGood (suite_from lines)
unfolding whole
good_lines before [] lines h g =
    let a = went_on (tested (is_ended before) (fault before (missing before))) _ lines h in
    let same : before ≡ lines = cc in
    subst (λ ls. IsGood (suite_from ls)) same g
good_lines before (row ∷ more) lines h g =
    let a = went_on (next_line before row) _ lines h in
    good_lines (before ++ a.0 ∷ []) more lines a.2 (subst IsGood (sym (suite_more before a.0)) (good_more before a.0 g (next_fits before row a.0 a.1)))

good_start : IsGood (suite_from [])
unfolding suite_from suite_limit
good_start = record { few_classes = omega arith; lines = record { few_tests = omega arith; few_files = omega arith; names = refl; files = λ i j h g e. absurd (omega (arith, h)); budget = (omega arith, omega arith) } }

-- What a suite text says is in form.
pub good_suite : (text : List ℕ) (suite : SuiteText) → suite_of text ≡ Ok suite → IsGood suite
unfolding suite_of
good_suite text suite h =
    let a = went_on (lines_from [] (rows text)) _ suite h in
    let same : suite_from a.0 ≡ suite = cc in
    subst IsGood same (good_lines [] (rows text) a.0 a.1 good_start)
