-- Tallies of tests: one more at the end.
use Rattle.std.proofs.Common.{◌≡◌, ℕ, ◌+◌, ◌^◌, ◌<◌, ◌≤◌, List, [], ◌∷◌, ◌++◌, length, get_or, take, Bool, true, cond, ◌&&◌, sym, ap, ◌∙◌, refl, subst, arith, count_by, map}
use Rattle.std.specs.List.{list_all}
use Rattle.std.proofs.lemmas.List.{take_more, append-nil, append_assoc, map-append, length-take-le}
use Rattle.std.proofs.{lemmas.List.Sums.sum_by_push, lemmas.List.Sums.count_by-le-length, lemmas.List.Folds.list_all-append, Math.Bool.and-true}
use Rattle.jvm_model.specs.declared.{outcome.Outcome.Outcome, program.Names.Names}
use Rattle.jvm_model.specs.Texts.{is_passed, is_failed, is_error, outcome_lines, test_lines}
use Rattle.test_run.specs.declared.tallies.{Counts.Counts, Tally.Tally}
use Rattle.test_run.specs.Tallies.{IsCount, IsFew, IsTally, counted_with, tally_with}

-- ---- one more at the end

pub lines_more : (names : Names) (xs : List (ℕ × Outcome)) (t : ℕ) (o : Outcome) → test_lines names (xs ++ (t, o) ∷ []) ≡ test_lines names xs ++ outcome_lines names t o
lines_more names [] t o = append-nil (outcome_lines names t o)
lines_more names (x ∷ xs) t o = ap (λ (l : List ℕ). outcome_lines names x.0 x.1 ++ l) (lines_more names xs t o) ∙ sym (append_assoc (outcome_lines names x.0 x.1) (test_lines names xs) (outcome_lines names t o))

pub outcomes_more : (xs : List (ℕ × Outcome)) (t : ℕ) (o : Outcome) → map (λ x. x.1) (xs ++ (t, o) ∷ []) ≡ map (λ x. x.1) xs ++ o ∷ []
outcomes_more xs t o = map-append (λ x. x.1) xs ((t, o) ∷ [])

-- ---- counts

counted_more : (p : Outcome → Bool) (os : List Outcome) (n : ℕ) (o : Outcome) → n ≡ count_by p os → n + cond (p o) 1 0 ≡ count_by p (os ++ o ∷ [])
counted_more p os n o e = ap (λ k. k + cond (p o) 1 0) e ∙ sym (sum_by_push (λ (x : Outcome). cond (p x) 1 0) os o)

pub all_more : (p : Outcome → Bool) (os : List Outcome) (b : Bool) (o : Outcome) → b ≡ list_all p os → (b && p o) ≡ list_all p (os ++ o ∷ [])
all_more p os b o e = ap (λ (c : Bool). c && p o) e ∙ (ap (λ (c : Bool). list_all p os && c) (sym (and-true (p o))) ∙ sym (list_all-append p os (o ∷ [])))

pub none_counted : IsCount [] (record { passed = 0; failed = 0; error = 0; all_passed = true })
none_counted = record { passed = refl; failed = refl; error = refl; all = refl }

pub count_next : (os : List Outcome) (o : Outcome) (c : Counts) → IsCount os c → IsCount (os ++ o ∷ []) (counted_with o c)
count_next os o c h = record {
  passed = counted_more is_passed os c.passed o h.passed;
  failed = counted_more is_failed os c.failed o h.failed;
  error = counted_more is_error os c.error o h.error;
  all = all_more is_passed os c.all_passed o h.all;
}

-- so it is as a loop goes on
pub count_more : (os : List Outcome) (i : ℕ) (o : Outcome) (c : Counts) → i < length os → o ≡ get_or os i o → IsCount (take i os) c → IsCount (take (i + 1) os) (counted_with o c)
count_more os i o c lt e h = subst (λ (z : List Outcome). IsCount z (counted_with o c)) (ap (λ (x : Outcome). take i os ++ x ∷ []) e ∙ sym (take_more os i o lt)) (count_next (take i os) o c h)

-- there is room to count one more of fewer than 2^32
pub few_of : (os : List Outcome) (n : ℕ) (c : Counts) → length os ≤ n → n < 4294967295 → IsCount os c → IsFew c
few_of os n c le few h =
    let passed = count_by-le-length is_passed os in
    let failed = count_by-le-length is_failed os in
    let error = count_by-le-length is_error os in
    (omega (arith, h.passed, passed, le, few), omega (arith, h.failed, failed, le, few), omega (arith, h.error, error, le, few))

pub few_counted : (os : List Outcome) (i : ℕ) (c : Counts) → i < length os → length os < 2 ^ 32 → IsCount (take i os) c → IsFew c
few_counted os i c lt few h =
    let small : length os < 4294967296 = few in
    let taken : length (take i os) ≡ i = length-take-le i os (omega (arith, lt)) in
    few_of (take i os) i c (omega (arith, taken)) (omega (arith, lt, small)) h

-- ---- a tally

pub tally_next : (names : Names) (xs : List (ℕ × Outcome)) (t : ℕ) (o : Outcome) (y : Tally) → IsTally names xs y → IsTally names (xs ++ (t, o) ∷ []) (tally_with names t o y)
tally_next names xs t o y h = record {
  lines = ap (λ (l : List ℕ). l ++ outcome_lines names t o) h.lines ∙ sym (lines_more names xs t o);
  counts = subst (λ (os : List Outcome). IsCount os (counted_with o y.counts)) (sym (outcomes_more xs t o)) (count_next (map (λ x. x.1) xs) o y.counts h.counts);
}
