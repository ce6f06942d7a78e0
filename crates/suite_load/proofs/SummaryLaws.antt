-- What is kept of good lines, with one line more.
use Rattle.std.proofs.Common.{◌≡◌, ℕ, max, Bool, true, false, ◌&&◌, ◌||◌, nat_le, List, [], ◌∷◌, ◌++◌, map, refl, sym, ap, ◌∙◌, arith}
use Rattle.std.proofs.{Math.Bool.or-false, lemmas.List.map-append, lemmas.List.Folds.list_all-append, lemmas.List.Folds.list_any-append, lemmas.List.Sums.fold-append, lemmas.Bool.Decides.nat_tests}
use Rattle.suite_load.specs.declared.suite_line.SuiteLine.TheVariants.{Class, File, Test}
use Rattle.suite_load.specs.{declared.suite_line.SuiteLine.SuiteLine, declared.suite_text.SuiteText.SuiteText, Summary.IsSummary, Summary.classes_with, Summary.files_with, Summary.tests_with}
use Rattle.suite_load.specs.SuiteForm.{added, empty_suite, suite_from, is_in_order, is_ended, is_end, place_of}

pub suite_more : (lines : List SuiteLine) (line : SuiteLine) → suite_from (lines ++ line ∷ []) ≡ added (suite_from lines) line
unfolding suite_from
suite_more lines line = fold-append added empty_suite lines (line ∷ [])

both_below : (a b p : ℕ) → (nat_le a p && (nat_le b p && true)) ≡ nat_le (max a b) p
both_below a b p = grind (arith, nat_tests)

order_more : (lines : List SuiteLine) (line : SuiteLine) (last place : ℕ) → is_in_order lines place ≡ nat_le last place → is_in_order (lines ++ line ∷ []) place ≡ nat_le (max last (place_of line)) place
unfolding is_in_order
order_more lines line last place h = list_all-append (λ l. nat_le (place_of l) place) lines (line ∷ []) ∙ ap (λ b. b && (nat_le (place_of line) place && true)) h ∙ both_below last (place_of line) place

end_more : (lines : List SuiteLine) (line : SuiteLine) (ended : Bool) → is_ended lines ≡ ended → is_ended (lines ++ line ∷ []) ≡ (ended || (is_end line || false))
unfolding is_ended
end_more lines line ended h = list_any-append is_end lines (line ∷ []) ∙ ap (λ b. b || (is_end line || false)) h

-- the names of a kind with one line more
classes_more : (suite : SuiteText) (line : SuiteLine) → classes_with suite.classes line ≡ (added suite line).classes
classes_more suite (Class name) = refl
classes_more suite _ = refl

files_more : (suite : SuiteText) (line : SuiteLine) → files_with (map (λ f. f.name) suite.files) line ≡ map (λ f. f.name) (added suite line).files
files_more suite (File name content) = sym (map-append (λ f. f.name) suite.files (record { name = name; content = content } ∷ []))
files_more suite _ = refl

tests_more : (suite : SuiteText) (line : SuiteLine) → tests_with (map (λ t. t.name) suite.tests) line ≡ map (λ t. t.name) (added suite line).tests
tests_more suite (Test test) = sym (map-append (λ t. t.name) suite.tests (test ∷ []))
tests_more suite _ = refl

-- the place is that of the line, and the names are those with what the line adds
pub summary_more : (lines : List SuiteLine) (last : ℕ) (ended : Bool) (classes files tests : List (List ℕ)) → IsSummary lines last ended classes files tests → (line : SuiteLine)
    → IsSummary (lines ++ line ∷ []) (max last (place_of line)) (ended || is_end line) (classes_with classes line) (files_with files line) (tests_with tests line)
summary_more lines last ended classes files tests s line = record {
  order = λ place. order_more lines line last place (s.order place);
  end = end_more lines line ended s.end ∙ ap (λ b. ended || b) (or-false (is_end line));
  class_list = ap (λ ns. classes_with ns line) s.class_list ∙ classes_more (suite_from lines) line ∙ ap (λ suite. suite.classes) (sym (suite_more lines line));
  file_list = ap (λ ns. files_with ns line) s.file_list ∙ files_more (suite_from lines) line ∙ ap (λ suite. map (λ f. f.name) suite.files) (sym (suite_more lines line));
  test_list = ap (λ ns. tests_with ns line) s.test_list ∙ tests_more (suite_from lines) line ∙ ap (λ suite. map (λ t. t.name) suite.tests) (sym (suite_more lines line));
}
