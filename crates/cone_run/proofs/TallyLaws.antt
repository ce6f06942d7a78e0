-- The report on cones, from its tally.
use Rattle.std.proofs.Common.{◌≡◌, ℕ, ◌+◌, ◌<◌, ◌≤◌, List, [], ◌∷◌, ◌++◌, length, get_or, take, Bool, ◌&&◌, sym, ap, ◌∙◌, refl, subst, arith, codes, decimal, map}
use Rattle.std.specs.List.{list_all, zip}
use Rattle.std.proofs.lemmas.List.{take_all, take_more, append_assoc, map-append, length-map, length-take-le}
use Rattle.jvm_model.specs.{declared.outcome.Outcome.Outcome, declared.program.Names.Names, Texts.is_passed, Texts.count_line}
use Rattle.test_run.specs.{declared.tallies.Tally.Tally, Running.Posted}
use Rattle.test_run.specs.Tallies.{IsCount, IsFew, IsTally, head_of, tally_with}
use Rattle.test_run.proofs.{Joins.join2, Joins.join3, TallyLaws.all_more, TallyLaws.few_of, TallyLaws.tally_next}
use Rattle.cone_run.specs.ConesText.{cones_line, cones_text, count_run, outcomes}

-- the line that begins with a head
pub line_of : (a : List ℕ) (selected ran : ℕ) {b c : List ℕ} → b ≡ a ++ head_of (codes "electric-cones 1") selected (codes " ran ") ran → c ≡ b ++ (10 ∷ []) →
    c ≡ a ++ (codes "electric-cones 1" ++ (10 ∷ cones_line selected ran))
line_of a selected ran head last =
    join2 a (head_of (codes "electric-cones 1") selected (codes " ran ") ran) (10 ∷ []) head last
    ∙ ap (λ (z : List ℕ). a ++ (codes "electric-cones 1" ++ (10 ∷ (codes "selected " ++ z))))
    (append_assoc (decimal selected) (codes " ran " ++ decimal ran) (10 ∷ []) ∙ ap (λ (z : List ℕ). decimal selected ++ z) (append_assoc (codes " ran ") (decimal ran) (10 ∷ [])))

-- ---- of pieces beside their tests

zip_more : (ks ls : List ℕ) (xs ys : List Outcome) → length ks ≡ length xs → zip (ks ++ ls) (xs ++ ys) ≡ zip ks xs ++ zip ls ys
zip_more [] ls [] ys e = refl
zip_more [] ls (x ∷ xs) ys e = absurd (omega arith)
zip_more (k ∷ ks) ls [] ys e = absurd (omega arith)
zip_more (k ∷ ks) ls (x ∷ xs) ys e = ap (λ (z : List (ℕ × Outcome)). (k, x) ∷ z) (zip_more ks ls xs ys (omega arith))

zip_seconds : (ks : List ℕ) (xs : List Outcome) → length ks ≡ length xs → map (λ x. x.1) (zip ks xs) ≡ xs
zip_seconds [] [] e = refl
zip_seconds [] (x ∷ xs) e = absurd (omega arith)
zip_seconds (k ∷ ks) [] e = absurd (omega arith)
zip_seconds (k ∷ ks) (x ∷ xs) e = ap (λ (z : List Outcome). x ∷ z) (zip_seconds ks xs (omega arith))

many_outcomes : (xs : List Posted) → length (outcomes xs) ≡ length xs
many_outcomes xs = length-map xs (λ (x : Posted). x.outcome)

piece_outcomes : (xs : List Posted) (i : ℕ) (x : Posted) → i < length xs → x ≡ get_or xs i x → outcomes (take (i + 1) xs) ≡ outcomes (take i xs) ++ (x.outcome ∷ [])
piece_outcomes xs i x lt e =
    ap (λ (z : List Posted). outcomes z) (take_more xs i x lt ∙ ap (λ (y : Posted). take i xs ++ (y ∷ [])) (sym e)) ∙ map-append (λ (y : Posted). y.outcome) (take i xs) (x ∷ [])

-- whether the next one passed too
pub passed_more : (xs : List Posted) (i : ℕ) (x : Posted) (o : Outcome) (b p : Bool) → i < length xs → x ≡ get_or xs i x → o ≡ x.outcome → b ≡ list_all is_passed (outcomes (take i xs)) → p ≡ is_passed o →
    (b && p) ≡ list_all is_passed (outcomes (take (i + 1) xs))
passed_more xs i x o b p lt is same before now =
    ap (λ (z : Bool). b && z) (now ∙ ap (λ (z : Outcome). is_passed z) same)
    ∙ (all_more is_passed (outcomes (take i xs)) b x.outcome before ∙ ap (λ (z : List Outcome). list_all is_passed z) (sym (piece_outcomes xs i x lt is)))

module _ (names : Names) (ts : List ℕ) (xs : List Posted) (many : length xs ≡ length ts) where
  beside_more : (i : ℕ) (x : Posted) → i < length ts → x ≡ get_or xs i x →
      zip (take (i + 1) ts) (outcomes (take (i + 1) xs)) ≡ zip (take i ts) (outcomes (take i xs)) ++ ((get_or ts i 0, x.outcome) ∷ [])
  beside_more i x lt e =
      let a = length-take-le i ts (omega (arith, lt)) in
      let b = length-take-le i xs (omega (arith, lt, many)) in
      let c = many_outcomes (take i xs) in
      ap (λ (z : List ℕ). zip z (outcomes (take (i + 1) xs))) (take_more ts i 0 lt)
      ∙ (ap (λ (z : List Outcome). zip (take i ts ++ (get_or ts i 0 ∷ [])) z) (piece_outcomes xs i x (omega (arith, lt, many)) e)
      ∙ zip_more (take i ts) (get_or ts i 0 ∷ []) (outcomes (take i xs)) (x.outcome ∷ []) (omega (arith, a, b, c)))

  pub no_pieces : (y : Tally) → y.lines ≡ [] → IsCount [] y.counts → IsTally names (zip (take 0 ts) (outcomes (take 0 xs))) y
  no_pieces y lines counts = record { lines = lines; counts = counts }

  pub piece_more : (i : ℕ) (x : Posted) (o : Outcome) (y new : Tally) → i < length ts → x ≡ get_or xs i x → o ≡ x.outcome → new ≡ tally_with names (get_or ts i 0) o y →
      IsTally names (zip (take i ts) (outcomes (take i xs))) y → IsTally names (zip (take (i + 1) ts) (outcomes (take (i + 1) xs))) new
  piece_more i x o y new lt e same is h =
      let next = tally_next names (zip (take i ts) (outcomes (take i xs))) (get_or ts i 0) x.outcome y h in
      let here : new ≡ tally_with names (get_or ts i 0) x.outcome y = is ∙ ap (λ (z : Outcome). tally_with names (get_or ts i 0) z y) same in
      subst (λ (z : Tally). IsTally names (zip (take (i + 1) ts) (outcomes (take (i + 1) xs))) z) (sym here)
      (subst (λ (z : List (ℕ × Outcome)). IsTally names z (tally_with names (get_or ts i 0) x.outcome y)) (sym (beside_more i x lt e)) next)

  pub few_pieces : (i : ℕ) (y : Tally) → i < length ts → length ts ≤ 1024 → IsTally names (zip (take i ts) (outcomes (take i xs))) y → IsFew y.counts
  few_pieces i y lt few h =
      let a = length-take-le i ts (omega (arith, lt)) in
      let b = length-take-le i xs (omega (arith, lt, many)) in
      let c = many_outcomes (take i xs) in
      let seconds = zip_seconds (take i ts) (outcomes (take i xs)) (omega (arith, a, b, c)) in
      few_of (outcomes (take i xs)) i y.counts (omega (arith, b, c)) (omega (arith, lt, few)) (subst (λ (z : List Outcome). IsCount z y.counts) seconds h.counts)

  pub all_pieces : (i : ℕ) (y : Tally) → length ts ≤ i → IsTally names (zip (take i ts) (outcomes (take i xs))) y → IsTally names (zip ts (outcomes xs)) y
  all_pieces i y le h =
      subst (λ (z : List Posted). IsTally names (zip ts (outcomes z)) y) (take_all i xs (omega (arith, le, many)))
      (subst (λ (z : List ℕ). IsTally names (zip z (outcomes (take i xs))) y) (take_all i ts le) h)

  -- the text that is written part by part
  pub reported : (ran : ℕ) (y : Tally) (a b l c d e : List ℕ) → IsTally names (zip ts (outcomes xs)) y → ran ≡ count_run xs → a ≡ [] →
      b ≡ a ++ (codes "electric-cones 1" ++ (10 ∷ cones_line (length ts) ran)) → l ≡ y.lines → d ≡ b ++ l → c ≡ count_line y.counts.passed y.counts.failed y.counts.error → e ≡ d ++ c →
      e ≡ cones_text names ts xs
  unfolding cones_text
  reported ran y a b l c d e h run empty head lines more counted last =
      let n = many_outcomes xs in
      let k : IsCount (outcomes xs) y.counts = subst (λ (z : List Outcome). IsCount z y.counts) (zip_seconds ts (outcomes xs) (omega (arith, many, n))) h.counts in
      join3 a (codes "electric-cones 1" ++ (10 ∷ cones_line (length ts) ran)) l c head more last
      ∙ λ j. empty j ++ (codes "electric-cones 1" ++ (10 ∷ (cones_line (length ts) (run j) ++ ((lines ∙ h.lines) j ++ (counted ∙ (λ m. count_line (k.passed m) (k.failed m) (k.error m))) j))))
