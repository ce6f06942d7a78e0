-- The reports on tests, from their tallies.
use Rattle.std.proofs.Common.{◌≡◌, ℕ, suc, ◌+◌, ◌^◌, ◌<◌, ◌≤◌, List, [], ◌∷◌, ◌++◌, length, get_or, take, sym, ap, ◌∙◌, refl, subst, arith, codes, Option, None}
use Rattle.std.proofs.lemmas.List.{take_more, append_assoc, length-append, length-map, length-take-le}
use Rattle.std.specs.List.{list_all}
use Rattle.jvm_model.specs.{declared.outcome.Outcome.Outcome, declared.program.Names.Names, Texts.is_passed, Texts.head_line, Texts.count_line, Texts.report_on}
use Rattle.order_law.specs.Plan.{Event}
use Rattle.run_core.specs.Run.{Gave}
use Rattle.test_run.specs.{declared.tallies.Tally.Tally, Tallies.IsCount, Tallies.IsFew, Tallies.IsTally, Tallies.tally_with}
use Rattle.test_run.proofs.TallyLaws.{few_of, few_counted, tally_next}
use Rattle.electrictest.specs.{PoolRuns.AreGiven, PoolRuns.outcomes, Tallies.IsTallyOf, Tallies.report_text, Wholes.numbered, Wholes.report}

-- ---- of the tests of a list

given_more : (es : List Event) (ts : List ℕ) (xs : List (ℕ × Outcome)) (t : ℕ) (o : Outcome) → AreGiven es ts xs → Gave es t o → AreGiven es (ts ++ t ∷ []) (xs ++ (t, o) ∷ [])
given_more es [] [] t o h g = (refl, g, tt)
given_more es [] (x ∷ xs) t o h g = absurd h
given_more es (u ∷ ts) [] t o h g = absurd h
given_more es (u ∷ ts) (x ∷ xs) t o h g = (h.0, h.1, given_more es ts xs t o h.2 g)

pub no_tests : (names : Names) (es : List Event) (tests : List ℕ) (y : Tally) → y.lines ≡ [] → IsCount [] y.counts → IsTallyOf names es (take 0 tests) y
no_tests names es tests y lines counts = record { given = []; gives = tt; tally = record { lines = lines; counts = counts }; many = refl }

pub tally_more : (names : Names) (es : List Event) (tests : List ℕ) (i d : ℕ) (o : Outcome) (y : Tally) → i < length tests → Gave es (get_or tests i d) o →
    IsTallyOf names es (take i tests) y → IsTallyOf names es (take (i + 1) tests) (tally_with names (get_or tests i d) o y)
tally_more names es tests i d o y lt gave h = record {
  given = h.given ++ (get_or tests i d, o) ∷ [];
  gives = subst (λ (l : List ℕ). AreGiven es l (h.given ++ (get_or tests i d, o) ∷ [])) (sym (take_more tests i d lt)) (given_more es (take i tests) h.given (get_or tests i d) o h.gives gave);
  tally = tally_next names h.given (get_or tests i d) o y h.tally;
  many = length-append h.given ((get_or tests i d, o) ∷ []) ∙ (ap (λ k. k + 1) h.many ∙ (sym (length-append (take i tests) (get_or tests i d ∷ [])) ∙ ap length (sym (take_more tests i d lt))));
}

-- there is room to count one more of at most 1,024 tests
pub few_so_far : (names : Names) (es : List Event) (tests : List ℕ) (i : ℕ) (y : Tally) → i < length tests → length tests ≤ 1024 → IsTallyOf names es (take i tests) y → IsFew y.counts
few_so_far names es tests i y lt few h =
    let taken : length (take i tests) ≡ i = length-take-le i tests (omega (arith, lt)) in
    let many : length (outcomes h.given) ≤ i = omega (arith, length-map h.given (λ (x : ℕ × Outcome). x.1), h.many, taken) in
    few_of (outcomes h.given) i y.counts many (omega (arith, lt, few)) h.tally.counts

-- ---- of a suite's tests in order

numbered_more : (t : ℕ) (os : List Outcome) (o : Outcome) → numbered t (os ++ o ∷ []) ≡ numbered t os ++ (t + length os, o) ∷ []
numbered_more t [] o = ap (λ (n : ℕ). (n, o) ∷ []) (let e : t ≡ t + 0 = omega arith in e)
numbered_more t (x ∷ xs) o = ap (λ (z : List (ℕ × Outcome)). (t, x) ∷ z) (numbered_more (t + 1) xs o ∙ ap (λ (n : ℕ). numbered (t + 1) xs ++ (n, o) ∷ []) (let e : t + 1 + length xs ≡ t + suc (length xs) = omega arith in e))

pub none_in_order : (names : Names) (os : List Outcome) (y : Tally) → y.lines ≡ [] → IsCount [] y.counts → IsTally names (numbered 1 (take 0 os)) y
none_in_order names os y lines counts = record { lines = lines; counts = counts }

pub in_order_more : (names : Names) (os : List Outcome) (i : ℕ) (o : Outcome) (y : Tally) → i < length os → o ≡ get_or os i o → IsTally names (numbered 1 (take i os)) y →
    IsTally names (numbered 1 (take (i + 1) os)) (tally_with names (i + 1) o y)
in_order_more names os i o y lt e h =
    let taken : length (take i os) ≡ i = length-take-le i os (omega (arith, lt)) in
    let next : numbered 1 (take (i + 1) os) ≡ numbered 1 (take i os) ++ (i + 1, o) ∷ [] =
    ap (numbered 1) (take_more os i o lt ∙ ap (λ (x : Outcome). take i os ++ x ∷ []) (sym e))
    ∙ (numbered_more 1 (take i os) o ∙ ap (λ (n : ℕ). numbered 1 (take i os) ++ (n, o) ∷ []) (let s : 1 + length (take i os) ≡ i + 1 = omega (arith, taken) in s)) in
    subst (λ (xs : List (ℕ × Outcome)). IsTally names xs (tally_with names (i + 1) o y)) (sym next) (tally_next names (numbered 1 (take i os)) (i + 1) o y h)

outcomes_numbered : (t : ℕ) (os : List Outcome) → outcomes (numbered t os) ≡ os
outcomes_numbered t [] = refl
outcomes_numbered t (o ∷ os) = ap (λ (z : List Outcome). o ∷ z) (outcomes_numbered (t + 1) os)

pub few_in_order : (names : Names) (os : List Outcome) (i : ℕ) (y : Tally) → i < length os → length os < 2 ^ 32 → IsTally names (numbered 1 (take i os)) y → IsFew y.counts
few_in_order names os i y lt few h = few_counted os i y.counts lt few (subst (λ (z : List Outcome). IsCount z y.counts) (outcomes_numbered 1 (take i os)) h.counts)

-- ---- reports

-- the report on what was counted is that on the tests and outcomes
pub report_is : (names : Names) (xs : List (ℕ × Outcome)) (selected executed : ℕ) (chains : Option ℕ) (y : Tally) → IsTally names xs y → length xs ≡ executed →
    report_text selected executed chains y.lines y.counts ≡ report_on names selected chains xs
unfolding report_on
report_is names xs selected executed chains y h many =
    λ i. codes "electric-run 1" ++ (10 ∷ (head_line selected (sym many i) chains ++ (h.lines i ++ count_line (h.counts.passed i) (h.counts.failed i) (h.counts.error i))))

length_numbered : (t : ℕ) (os : List Outcome) → length (numbered t os) ≡ length os
length_numbered t [] = refl
length_numbered t (o ∷ os) = ap suc (length_numbered (t + 1) os)

-- that on a suite's tests in order
pub in_order_report : (names : Names) (os : List Outcome) (y : Tally) → IsTally names (numbered 1 os) y → report_text (length os) (length os) None y.lines y.counts ≡ report names os
in_order_report names os y h = report_is names (numbered 1 os) (length os) (length os) None y h (length_numbered 1 os)

pub in_order_passed : (names : Names) (os : List Outcome) (y : Tally) → IsTally names (numbered 1 os) y → y.counts.all_passed ≡ list_all is_passed os
in_order_passed names os y h = h.counts.all ∙ ap (list_all is_passed) (outcomes_numbered 1 os)

-- a head, and what stands behind it
pub head_then : (t s d w e r : List ℕ) → (t ++ (10 ∷ (s ++ (d ++ (w ++ e))))) ++ r ≡ t ++ (10 ∷ (s ++ (d ++ (w ++ (e ++ r)))))
head_then t s d w e r =
    append_assoc t (10 ∷ (s ++ (d ++ (w ++ e)))) r
    ∙ ap (λ z. t ++ (10 ∷ z)) (append_assoc s (d ++ (w ++ e)) r ∙ ap (λ z. s ++ z) (append_assoc d (w ++ e) r ∙ ap (λ z. d ++ z) (append_assoc w e r)))
