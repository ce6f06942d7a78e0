-- Lists of whole chains and the first tests of one more, by the suite's own record.
use Rattle.std.proofs.Common.{◌≡◌, ◌⊎◌, ℕ, ◌<◌, List, [], ◌∷◌, ◌++◌, append_assoc, append-nil, reverse, true, Some, None, refl, sym, ap, ◌∙◌, subst, arith, inl, inr}
use Rattle.std.proofs.lemmas.List.{reverse-append, reverse-reverse}
use Rattle.jvm_model.specs.{declared.program.Program.Program, Linked.Linked, State.test_at, World.World}
use Rattle.jvm_model.specs.Suite.{outcome_in, last_outcome, one_test, is_detected}
use Rattle.jvm_model.proofs.Runs.{last_outcome_is}
use Rattle.order_law.specs.{declared.edges.Edge.Edge, declared.edges.EdgeKind.TheVariants.Raw, Histories.RecordOf, Histories.IsTestNumber}
use Rattle.order_law.specs.Conflicts.{Member, Distinct, edge, Fits, History, ClosedUnderRaw, itself, forth, back}
use Rattle.order_law.specs.Plan.{Ascending, AreChainsOf, IsWholeThenPart, chain_at, whole_chains}
use Rattle.order_law.proofs.{Plans.before_rises, Plans.next_outcome, Posts.member_mid, Posts.below_mid, Posts.reversed}
use Rattle.worker_pool.specs.Plans.{GivesNone}

-- what stands before a place of an ascending list is lower
lower : (g : List ℕ) (x : ℕ) (r : List ℕ) → Ascending (g ++ (x ∷ r)) → (y : ℕ) → Member y g → y < x
lower [] x r asc y m = absurd m
lower (a ∷ g) x r asc y (inl e) = let k : a < x = asc.0 x (member_mid g x r) in omega arith
lower (a ∷ g) x r asc y (inr m) = lower g x r asc.1 y m

module _ (p : Program) (R : List Edge) (own : RecordOf p R) (S : ℕ → Type 0) (C : List (List ℕ)) (raw_closed : ClosedUnderRaw R S) (cs : AreChainsOf R S C) where
  -- D, which has its latest test first, is a history of tests of the chains `whole` and of `front`.
  record Built (whole front D : List ℕ) : Type 0 where
    history : History R D
    from : (y : ℕ) → Member y D → ((i : ℕ) × Member i whole × Member y (chain_at C i)) ⊎ Member y front
    has : (y : ℕ) → Member y front → Member y D

  -- a test of another chain is none of these
  elsewhere : (whole : List ℕ) (c y : ℕ) → (Member c whole → ⊥) → Member y (chain_at C c) → (i : ℕ) × Member i whole × Member y (chain_at C i) → ⊥
  elsewhere whole c y new here k = new (subst (λ (z : ℕ). Member z whole) (cs.apart k.0 c y k.2 here) k.1)

  -- the next test of a chain may follow
  fits_next : (whole front D r : List ℕ) (c x : ℕ) → Built whole front D → (Member c whole → ⊥) → chain_at C c ≡ front ++ (x ∷ r) → Fits R D x
  fits_next whole front D r c x h new split =
      let there : Member x (chain_at C c) = subst (λ (z : List ℕ). Member x z) (sym split) (member_mid front x r) in
      let sx : S x = cs.within c x there in
      let asc : Ascending (front ++ (x ∷ r)) = subst (λ (z : List ℕ). Ascending z) split (cs.ascending c) in
      record {
        is_new = λ m. elim (h.from x m) [
          | inl k ↦ elsewhere whole c x new there k
          | inr k ↦ let l = lower front x r asc x k in absurd (omega arith)
        ];
        closed = λ u e.
            let uc : Member u (chain_at C c) = cs.joined c x u there (back (itself sx) (raw_closed u x sx e) (edge Raw e)) in
            h.has u (below_mid front x r asc u (subst (λ (z : List ℕ). Member u z) split uc) (before_rises p R own (edge Raw e)));
        in_order = λ y m b. elim (h.from y m) [
          | inl k ↦ elsewhere whole c y new (cs.joined c x y there (forth (itself sx) (cs.within k.0 y k.2) b)) k
          | inr k ↦ let l = lower front x r asc y k in let n = before_rises p R own b in absurd (omega arith)
        ];
      }

  in_front : (y x : ℕ) (front : List ℕ) → Member y (front ++ (x ∷ [])) → Member y front ⊎ (y ≡ x)
  in_front y x [] (inl e) = inr e
  in_front y x [] (inr m) = absurd m
  in_front y x (a ∷ front) (inl e) = inl (inl e)
  in_front y x (a ∷ front) (inr m) = elim (in_front y x front m) [ inl k ↦ inl (inr k) | inr e ↦ inr e ]

  in_both : (y : ℕ) (front r : List ℕ) → Member y front → Member y (front ++ r)
  in_both y [] r m = absurd m
  in_both y (a ∷ front) r (inl e) = inl e
  in_both y (a ∷ front) r (inr m) = inr (in_both y front r m)

  built_next : (whole front D r : List ℕ) (c x : ℕ) → Built whole front D → (Member c whole → ⊥) → chain_at C c ≡ front ++ (x ∷ r) → Built whole (front ++ (x ∷ [])) (x ∷ D)
  built_next whole front D r c x h new split = record {
    history = (fits_next whole front D r c x h new split, h.history);
    from = λ y m. elim m [
      | inl e ↦ inr (subst (λ (z : ℕ). Member z (front ++ (x ∷ []))) (sym e) (member_mid front x []))
      | inr k ↦ elim (h.from y k) [ inl w ↦ inl w | inr f ↦ inr (in_both y front (x ∷ []) f) ]
    ];
    has = λ y m. elim (in_front y x front m) [ inl k ↦ inr (h.has y k) | inr e ↦ inl e ];
  }

  -- more tests of the same chain
  built_more : (more whole front D r : List ℕ) (c : ℕ) → Built whole front D → (Member c whole → ⊥) → chain_at C c ≡ front ++ (more ++ r) → Built whole (front ++ more) (reverse more ++ D)
  built_more [] whole front D r c h new split = subst (λ (z : List ℕ). Built whole z D) (sym (append-nil front)) h
  built_more (x ∷ more) whole front D r c h new split =
      let next = built_next whole front D (more ++ r) c x h new split in
      let rest = built_more more whole (front ++ (x ∷ [])) (x ∷ D) r c next new (split ∙ sym (append_assoc front (x ∷ []) (more ++ r))) in
      subst (λ (z : List ℕ). Built whole (front ++ (x ∷ more)) z) (sym (append_assoc (reverse more) (x ∷ []) D) ∙ ap (λ (z : List ℕ). z ++ D) (sym (reversed x more)))
      (subst (λ (z : List ℕ). Built whole z (reverse more ++ (x ∷ D))) (append_assoc front (x ∷ []) more) rest)

  -- a chain that is whole
  whole_from : (whole D : List ℕ) (c : ℕ) → Built whole (chain_at C c) D → Built (c ∷ whole) [] D
  whole_from whole D c h = record {
    history = h.history;
    from = λ y m. elim (h.from y m) [ inl k ↦ inl (k.0, inr k.1, k.2) | inr f ↦ inl (c, inl refl, f) ];
    has = λ y m. absurd m;
  }

  all_whole : (whole : List ℕ) → Distinct whole → Built whole [] (reverse (whole_chains C whole))
  all_whole [] d = record { history = tt; from = λ y m. absurd m; has = λ y m. absurd m }
  all_whole (c ∷ whole) d =
      let more = built_more (chain_at C c) whole [] (reverse (whole_chains C whole)) [] c (all_whole whole d.1) d.0 (sym (append-nil (chain_at C c))) in
      subst (λ (z : List ℕ). Built (c ∷ whole) [] z) (sym (reverse-append (whole_chains C whole) (chain_at C c))) (whole_from whole (reverse (chain_at C c) ++ reverse (whole_chains C whole)) c more)

  -- the tests of such a list, the latest first
  part_built : (l : List ℕ) (t : ℕ) → (w : IsWholeThenPart C l t) → Built w.whole w.front (reverse l)
  part_built l t w =
      let more = built_more w.front w.whole [] (reverse (whole_chains C w.whole)) (t ∷ w.rest) w.last (all_whole w.whole w.once.1) w.once.0 w.split in
      subst (λ (z : List ℕ). Built w.whole w.front z) (sym (reverse-append (whole_chains C w.whole) w.front) ∙ ap reverse (sym w.list)) more

  -- where the chains' tests are the suite's, the next test gives something after the list
  pub part_gives : (linked : Linked p) → is_detected p ≡ true → ((t : ℕ) → S t → IsTestNumber p t) → (l : List ℕ) (t : ℕ) → IsWholeThenPart C l t → GivesNone p l t → ⊥
  part_gives linked detected low l t w none =
      let built = part_built l t w in
      let fits = fits_next w.whole w.front (reverse l) w.rest w.last t built w.once.0 w.split in
      let inside : (y : ℕ) → Member y (reverse l) → S y = λ y m. elim (built.from y m) [
        | inl k ↦ cs.within k.0 y k.2
        | inr f ↦ cs.within w.last y (subst (λ (z : List ℕ). Member y z) (sym w.split) (in_both y w.front (t ∷ w.rest) f))
      ] in
      let st : S t = cs.within w.last t (subst (λ (z : List ℕ). Member t z) (sym w.split) (member_mid w.front t w.rest)) in
      let given = next_outcome p linked R own detected (reverse l) t built.history fits (low t st) (λ y m. low y (inside y m)) in
      let list : reverse (t ∷ reverse l) ≡ l ++ (t ∷ []) = reversed t (reverse l) ∙ ap (λ (z : List ℕ). z ++ (t ∷ [])) (reverse-reverse l) in
      let last = last_outcome_is p l t none.after.given none.after.ran in
      let at : one_test p none.world t (test_at p t).budget ≡ None = none.none in
      let gone : last_outcome p (l ++ (t ∷ [])) ≡ None = last ∙ (ap (λ (w : World). outcome_in (one_test p w t (test_at p t).budget)) (sym none.after.left) ∙ ap outcome_in at) in
      let some : last_outcome p (l ++ (t ∷ [])) ≡ Some given.0 = ap (last_outcome p) (sym list) ∙ given.1 in
      absurd (cc)
