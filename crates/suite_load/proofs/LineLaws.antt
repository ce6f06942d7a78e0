-- The lines of a text, one by one.
use Rattle.std.proofs.Common.{◌≡◌, ℕ, ◌+◌, ◌<◌, ◌≤◌, ◌⊎◌, Bool, true, false, eqb, List, [], ◌∷◌, ◌++◌, length, Result, Ok, Err, refl, sym, ap, ◌∙◌, inl, inr, arith}
use Rattle.std.specs.List.{count_by, slice_split, position_or_len, before_first, after_first}
use Rattle.std.proofs.lemmas.{Bool.cases_lt, Bool.lt-ltb, Bool.le-ltb, Bool.eqb-true, List.length-drop}
use Rattle.std.proofs.lemmas.List.{Splits.length-slice_split, Splits.slice_split_first, Splits.slice_split_none, Sums.fails_before_first}
use Rattle.suite_load.specs.declared.suite_line.SuiteLine.{SuiteLine}
use Rattle.suite_load.specs.declared.suite_text.{SuiteRefusal.SuiteRefusal, SuiteRefusal.TheVariants.Suite, SuiteRefusal.TheVariants.NoMemory}
use Rattle.suite_load.specs.LineForms.{cut, rows, rows_of_pieces, first_row, rest_of}
use Rattle.suite_load.specs.Reading.{◌>>=◌, Fails, tested}
use Rattle.suite_load.specs.SuiteForm.{next_line, lines_from, line_at, whole, is_ended, fault, missing}

first_ended : (piece : List ℕ) (pieces : List (List ℕ)) (n : ℕ) → length pieces ≡ n + 1 → rows_of_pieces (piece ∷ pieces) ≡ record { bytes = piece; ended = true } ∷ rows_of_pieces pieces
first_ended piece [] n h = absurd (omega (arith, h))
first_ended piece (next ∷ more) n h = refl

abbrev newline : ℕ → Bool
newline b = eqb b 10

by_place : (text : List ℕ) → eqb (length text) 0 ≡ false → (position_or_len newline text < length text) ⊎ (length text ≤ position_or_len newline text) → rows text ≡ first_row text ∷ rows (rest_of text)
unfolding rows cut
by_place text some (inl lt) = rw (slice_split_first newline text 0 lt, lt-ltb _ _ lt) (first_ended (before_first newline text) (slice_split newline (after_first newline text)) (count_by newline (after_first newline text)) (length-slice_split newline (after_first newline text)))
by_place text some (inr le) = rw (slice_split_none newline text (λ k d h. fails_before_first newline text k d (omega arith)), le-ltb _ _ le, some) refl

-- the first line, and the lines after it
pub rows_step : (text : List ℕ) → eqb (length text) 0 ≡ false → rows text ≡ first_row text ∷ rows (rest_of text)
rows_step text some = by_place text some (cases_lt (position_or_len newline text) (length text))

some_length : (text : List ℕ) → eqb (length text) 0 ≡ false → 0 < length text
some_length [] some = absurd cc
some_length (b ∷ bs) some = omega arith

rest_by_place : (text : List ℕ) → eqb (length text) 0 ≡ false → (position_or_len newline text < length text) ⊎ (length text ≤ position_or_len newline text) → length (rest_of text) < length text
unfolding cut
rest_by_place text some (inl lt) = rw (lt-ltb _ _ lt) (omega (arith, length-drop (position_or_len newline text + 1) text))
rest_by_place text some (inr le) = rw (le-ltb _ _ le) (some_length text some)

-- what follows the first line is shorter
pub rest_shorter : (text : List ℕ) → eqb (length text) 0 ≡ false → length (rest_of text) < length text
rest_shorter text some = rest_by_place text some (cases_lt (position_or_len newline text) (length text))

pub rows_none : (text : List ℕ) → eqb (length text) 0 ≡ true → rows text ≡ []
unfolding rows
rows_none [] none = refl
rows_none (b ∷ bs) none = absurd (omega (arith, eqb-true (length (b ∷ bs)) 0 none))

abbrev beside : List ℕ → SuiteLine → Result (SuiteLine × List ℕ) SuiteRefusal
beside text line = Ok (line, text)

rejoined : {A : Type 0} (r : Result SuiteLine SuiteRefusal) (text : List ℕ) (F : SuiteLine → List ℕ → Result A SuiteRefusal)
    → ((r >>= beside text) >>= λ x. F x.0 x.1) ≡ (r >>= λ line. F line text)
rejoined (Ok line) text F = refl
rejoined (Err e) text F = refl

-- the lines of a text, by its first line
lines_step : (before : List SuiteLine) (text : List ℕ) (all : Result (List SuiteLine) SuiteRefusal) → eqb (length text) 0 ≡ false → lines_from before (rows text) ≡ all
    → (line_at before text >>= λ x. lines_from (before ++ x.0 ∷ []) (rows x.1)) ≡ all
lines_step before text all some h =
    rejoined (next_line before (first_row text)) (rest_of text) (λ line rest. lines_from (before ++ line ∷ []) (rows rest)) ∙ sym (ap (lines_from before) (rows_step text some)) ∙ h

pub lines_go_on : (before : List SuiteLine) (line : SuiteLine) (text rest : List ℕ) (all : Result (List SuiteLine) SuiteRefusal) → eqb (length text) 0 ≡ false → line_at before text ≡ Ok (line, rest)
    → lines_from before (rows text) ≡ all → lines_from (before ++ line ∷ []) (rows rest) ≡ all
lines_go_on before line text rest all some e h = sym (ap (λ r. r >>= λ x. lines_from (before ++ x.0 ∷ []) (rows x.1)) e) ∙ lines_step before text all some h

pub lines_fail : (refusal : SuiteRefusal) (before : List SuiteLine) (text : List ℕ) (all : Result (List SuiteLine) SuiteRefusal) → eqb (length text) 0 ≡ false → Fails refusal (line_at before text)
    → lines_from before (rows text) ≡ all → Fails refusal all
lines_fail (Suite number why) before text all some e h = sym (lines_step before text all some h) ∙ ap (λ r. r >>= λ x. lines_from (before ++ x.0 ∷ []) (rows x.1)) e
lines_fail NoMemory before text all some e h = tt

pub lines_end : (before : List SuiteLine) (text : List ℕ) (all : Result (List SuiteLine) SuiteRefusal) → eqb (length text) 0 ≡ true → lines_from before (rows text) ≡ all → whole before ≡ all
lines_end before text all none h = sym (ap (lines_from before) (rows_none text none)) ∙ h

pub whole_fails : (refusal : SuiteRefusal) (before : List SuiteLine) (all : Result (List SuiteLine) SuiteRefusal) → Fails refusal (tested (is_ended before) (fault before (missing before))) → whole before ≡ all → Fails refusal all
unfolding whole
whole_fails (Suite number why) before all f h = sym h ∙ ap (λ r. r >>= λ _. Ok before) f
whole_fails NoMemory before all f h = tt

pub whole_done : (before : List SuiteLine) (all : Result (List SuiteLine) SuiteRefusal) → tested (is_ended before) (fault before (missing before)) ≡ Ok tt → whole before ≡ all → all ≡ Ok before
unfolding whole
whole_done before all f h = sym h ∙ ap (λ r. r >>= λ _. Ok before) f
