-- Classes of labels, and what they are of a graph.
use Rattle.std.proofs.Common.{◌≡◌, ◌↔◌, ℕ, zero, suc, ◌+◌, ◌-◌, ◌<◌, ◌≤◌, Bool, true, false, cond, nat_eq, List, [], ◌∷◌, ◌++◌, length, get_or, refl, sym, ◌∙◌, ap, subst, inl, inr, arith, length-append}
use Rattle.std.proofs.lemmas.{Bool.cases_eq, Bool.cases_lt, Bool.eqb-true, Bool.eqb-false, List.get_or_append_left, List.get_or-append_right}
use Rattle.order_law.specs.{declared.edges.Edge.Edge, Plan.Ascending, Plan.chain_at, Plan.AreListedChainsOf}
use Rattle.order_law.specs.Conflicts.{Member, Before, Joined, itself, forth, back}
use Rattle.order_law.proofs.Members.{member_left, member_right, member_either, before_up, joined_within}
use Rattle.dep_graph.specs.Graphs.{GoUp}
use Rattle.dep_graph.proofs.SourceLaws.{ascending_more}
use Rattle.selection_close.specs.Closed.{IsAscendingOf}
use Rattle.schedule_plan.specs.Grouping.{at, AreLabels, AreJoined, IsClassOf, AreClasses}
use Rattle.schedule_plan.proofs.Places.{member_get, place_of, rises, stands_before, same_place}
use Rattle.schedule_plan.proofs.Joinings.{joined_in}

-- ---- the list of a class
-- no place before the one that a label names has it
pub class_begun : (tests labels : List ℕ) (label : ℕ) → label < length tests → ((i : ℕ) → i < length tests → at labels i ≤ i) → IsClassOf tests labels label label []
class_begun tests labels label within low = record {
  exact = λ t. (λ m. absurd m, λ h. let a : h.0 < label = h.1 in let b = low h.0 (omega arith) in let e = h.2 in absurd (omega arith));
  ascending = tt;
}

module _ (tests labels : List ℕ) (label i : ℕ) (rising : Ascending tests) (lt : i < length tests) (l : List ℕ) (is : IsClassOf tests labels label i l) where
  class_taken : at labels i ≡ label → IsClassOf tests labels label (i + 1) (l ++ (at tests i ∷ []))
  class_taken e = record {
    exact = λ t. (
      λ m. elim (member_either l (at tests i ∷ []) t m) [
        | inl a ↦ let p = (is.exact t).0 a in let x : p.0 < i = p.1 in (p.0, omega arith, p.2, p.3)
        | inr b ↦ elim b [ inl s ↦ (i, omega arith, e, sym s) | inr z ↦ absurd z ]
      ],
      λ p. let x : p.0 < i + 1 = p.1 in elim (cases_eq p.0 i) [
        | inl s ↦ member_right l (at tests i ∷ []) t (inl (sym p.3 ∙ ap (λ (z : ℕ). at tests z) s))
        | inr n ↦ member_left l (at tests i ∷ []) t ((is.exact t).1 (p.0, omega arith, p.2, p.3))
      ],
    );
    ascending = ascending_more l (at tests i) is.ascending (λ t m. let p = (is.exact t).0 m in let x : p.0 < i = p.1 in let y = rises tests rising p.0 i x lt in let z = p.3 in omega arith);
  }

  class_left : (at labels i ≡ label → ⊥) → IsClassOf tests labels label (i + 1) l
  class_left f = record {
    exact = λ t. (
      λ m. let p = (is.exact t).0 m in let x : p.0 < i = p.1 in (p.0, omega arith, p.2, p.3),
      λ p. let x : p.0 < i + 1 = p.1 in elim (cases_eq p.0 i) [
        | inl s ↦ absurd (f (sym (ap (λ (z : ℕ). at labels z) s) ∙ p.2))
        | inr n ↦ (is.exact t).1 (p.0, omega arith, p.2, p.3)
      ],
    );
    ascending = is.ascending;
  }

  class_by : (b : Bool) → nat_eq (at labels i) label ≡ b → IsClassOf tests labels label (i + 1) (cond b (l ++ (at tests i ∷ [])) l)
  class_by true e = class_taken (eqb-true (at labels i) label e)
  class_by false e = class_left (eqb-false (at labels i) label e)

  pub class_next : (m : List ℕ) → m ≡ cond (nat_eq (at labels i) label) (l ++ (at tests i ∷ [])) l → IsClassOf tests labels label (i + 1) m
  class_next m e = subst (λ (z : List ℕ). IsClassOf tests labels label (i + 1) z) (sym e) (class_by (nat_eq (at labels i) label) refl)

-- ---- all classes
pub classes_begun : (tests labels : List ℕ) → AreClasses tests labels 0 []
classes_begun tests labels = record {
  roots = [];
  many = refl;
  exact = λ r. (λ m. absurd m, λ h. let a : r < 0 = h.0 in absurd (omega arith));
  ascending = tt;
  each = λ c h. absurd (omega arith);
}

module _ (tests labels : List ℕ) (r : ℕ) (C : List (List ℕ)) (is : AreClasses tests labels r C) where
  pub no_class : (at labels r ≡ r → ⊥) → AreClasses tests labels (r + 1) C
  no_class f = record {
    roots = is.roots;
    many = is.many;
    exact = λ x. (
      λ m. let p = (is.exact x).0 m in let a : x < r = p.0 in (omega arith, p.1),
      λ p. let a : x < r + 1 = p.0 in elim (cases_eq x r) [ inl e ↦ absurd (f (subst (λ (z : ℕ). at labels z ≡ z) e p.1)) | inr n ↦ (is.exact x).1 (omega arith, p.1) ],
    );
    ascending = is.ascending;
    each = is.each;
  }

  module _ (root : at labels r ≡ r) (l : List ℕ) (class : IsClassOf tests labels r (length tests) l) where
    each_next : (c : ℕ) → c < length (C ++ (l ∷ [])) → IsClassOf tests labels (at (is.roots ++ (r ∷ [])) c) (length tests) (chain_at (C ++ (l ∷ [])) c)
    each_next c h = let many = is.many in elim (cases_lt c (length C)) [
      | inl lt ↦
          let less : c < length is.roots = omega arith in
          subst (λ (x : List ℕ). IsClassOf tests labels (at (is.roots ++ (r ∷ [])) c) (length tests) x) (sym (get_or_append_left C (l ∷ []) [] c lt))
          (subst (λ (x : ℕ). IsClassOf tests labels x (length tests) (chain_at C c)) (sym (get_or_append_left is.roots (r ∷ []) 0 c less)) (is.each c lt))
      | inr ge ↦
          let n = length-append C (l ∷ []) in
          let here : c ≡ length C = omega arith in
          let gap : c - c ≡ 0 = omega arith in
          let e : chain_at (C ++ (l ∷ [])) c ≡ l = get_or-append_right C (l ∷ []) c c [] (sym here) (omega arith) ∙ ap (λ (z : ℕ). get_or (l ∷ []) z []) gap in
          let f : at (is.roots ++ (r ∷ [])) c ≡ r = get_or-append_right is.roots (r ∷ []) c c 0 (omega arith) (omega arith) ∙ ap (λ (z : ℕ). get_or (r ∷ []) z 0) gap in
          subst (λ (x : List ℕ). IsClassOf tests labels (at (is.roots ++ (r ∷ [])) c) (length tests) x) (sym e)
          (subst (λ (x : ℕ). IsClassOf tests labels x (length tests) l) (sym f) class)
    ]

    pub one_class : AreClasses tests labels (r + 1) (C ++ (l ∷ []))
    one_class = record {
      roots = is.roots ++ (r ∷ []);
      many = length-append is.roots (r ∷ []) ∙ ap (λ (z : ℕ). z + 1) is.many ∙ sym (length-append C (l ∷ []));
      exact = λ x. (
        λ m. elim (member_either is.roots (r ∷ []) x m) [
          | inl a ↦ let p = (is.exact x).0 a in let b : x < r = p.0 in (omega arith, p.1)
          | inr b ↦ elim b [ inl e ↦ (omega arith, subst (λ (z : ℕ). at labels z ≡ z) (sym e) root) | inr z ↦ absurd z ]
        ],
        λ p. let a : x < r + 1 = p.0 in elim (cases_eq x r) [ inl e ↦ member_right is.roots (r ∷ []) x (inl e) | inr n ↦ member_left is.roots (r ∷ []) x ((is.exact x).1 (omega arith, p.1)) ],
      );
      ascending = ascending_more is.roots r is.ascending (λ x m. ((is.exact x).0 m).0);
      each = each_next;
    }

-- ---- the chains of a set
no_chain : (C : List (List ℕ)) (i : ℕ) → length C ≤ i → chain_at C i ≡ []
no_chain [] i h = refl
no_chain (c ∷ C) zero h = absurd (omega arith)
no_chain (c ∷ C) (suc i) h = no_chain C i (omega arith)

module _ (R : List Edge) (tests labels : List ℕ) (up : GoUp 1024 R) (rising : Ascending tests) (ls : AreLabels R tests labels) (js : AreJoined R tests labels (length tests)) where
  stepped : (a b : ℕ) → a < length tests → b < length tests → Before R (at tests a) (at tests b) → at labels a ≡ at labels b
  stepped a b h k x = js b k a (stands_before tests rising a b h k (before_up R (λ k u t h. (up k u t h).1) x)) x

  same_label : {t u : ℕ} → Joined R (λ x. Member x tests) t u → (i j : ℕ) → i < length tests → j < length tests → at tests i ≡ t → at tests j ≡ u → at labels i ≡ at labels j
  same_label (itself s) i j h k e g = ap (λ (z : ℕ). at labels z) (same_place tests rising i j h k (e ∙ sym g))
  same_label (forth {t} {u} {v} q s b) i j h k e g =
      let p = place_of tests u (joined_within q) in
      same_label q i p.0 h p.1 e p.2 ∙ stepped p.0 j p.1 k (subst (λ (z : ℕ). Before R z (at tests j)) (sym p.2) (subst (λ (z : ℕ). Before R u z) (sym g) b))
  same_label (back {t} {u} {v} q s b) i j h k e g =
      let p = place_of tests u (joined_within q) in
      same_label q i p.0 h p.1 e p.2 ∙ sym (stepped j p.0 k p.1 (subst (λ (z : ℕ). Before R (at tests j) z) (sym p.2) (subst (λ (z : ℕ). Before R z u) (sym g) b)))

  module _ (set : List ℕ) (of_set : (t : ℕ) → Member t tests ↔ Member t set) (C : List (List ℕ)) (cs : AreClasses tests labels (length tests) C) where
    abbrev In : ℕ → Type 0
    In t = Member t set

    -- a member of a chain, with its place and its label
    record Listed (i t : ℕ) : Type 0 where
      chain : i < length C
      place : ℕ
      within : place < length tests
      label : at labels place ≡ at cs.roots i
      is : at tests place ≡ t

    listed : (i t : ℕ) → Member t (chain_at C i) → Listed i t
    listed i t m = elim (cases_lt i (length C)) [
      | inl lt ↦ let p = ((cs.each i lt).exact t).0 m in record { chain = lt; place = p.0; within = p.1; label = p.2; is = p.3 }
      | inr ge ↦ absurd (subst (λ (l : List ℕ). Member t l) (no_chain C i ge) m)
    ]

    is_listed : (i q : ℕ) → i < length C → q < length tests → at labels q ≡ at cs.roots i → Member (at tests q) (chain_at C i)
    is_listed i q lt h e = ((cs.each i lt).exact (at tests q)).1 (q, h, e, refl)

    in_tests : {t u : ℕ} → Joined R In t u → Joined R (λ x. Member x tests) t u
    in_tests q = joined_in (λ t s. (of_set t).1 s) q

    covering : (t : ℕ) → In t → (i : ℕ) × Member t (chain_at C i)
    covering t s =
        let p = place_of tests t ((of_set t).1 s) in
        let low = ls.low p.0 p.1 in
        let h : p.0 < length tests = p.1 in
        let r = place_of cs.roots (at labels p.0) ((cs.exact (at labels p.0)).1 (omega arith, ls.rooted p.0 p.1)) in
        let many = cs.many in
        let k : r.0 < length cs.roots = r.1 in
        (r.0, subst (λ (z : ℕ). Member z (chain_at C r.0)) p.2 (is_listed r.0 p.0 (omega arith) p.1 (sym r.2)))

    joining : (i t u : ℕ) → Member t (chain_at C i) → Joined R In t u → Member u (chain_at C i)
    joining i t u m q =
        let a = listed i t m in
        let p = place_of tests u ((of_set u).1 (joined_within q)) in
        subst (λ (z : ℕ). Member z (chain_at C i)) p.2 (is_listed i p.0 a.chain p.1 (sym (same_label (in_tests q) a.place p.0 a.within p.1 a.is p.2) ∙ a.label))

    least : (i t u : ℕ) → Member t (chain_at C i) → Member u (chain_at C i) → Joined R In t u
    least i t u m n =
        let a = listed i t m in
        let b = listed i u n in
        joined_in (λ x s. (of_set x).0 s) (subst (λ (z : ℕ). Joined R (λ x. Member x tests) z u) a.is (subst (λ (z : ℕ). Joined R (λ x. Member x tests) (at tests a.place) z) b.is (ls.sound a.place b.place a.within b.within (a.label ∙ sym b.label))))

    chain_once : (i j t : ℕ) → Member t (chain_at C i) → Member t (chain_at C j) → i ≡ j
    chain_once i j t m n =
        let a = listed i t m in
        let b = listed j t n in
        let many = cs.many in
        let h = a.chain in
        let k = b.chain in
        let p : a.place ≡ b.place = same_place tests rising a.place b.place a.within b.within (a.is ∙ sym b.is) in
        same_place cs.roots cs.ascending i j (omega arith) (omega arith) (sym a.label ∙ ap (λ (z : ℕ). at labels z) p ∙ b.label)

    chain_rising : (i : ℕ) → Ascending (chain_at C i)
    chain_rising i = elim (cases_lt i (length C)) [ inl lt ↦ (cs.each i lt).ascending | inr ge ↦ subst (λ (l : List ℕ). Ascending l) (sym (no_chain C i ge)) tt ]

    -- the root of a chain
    root_of : (i : ℕ) → i < length C → (at cs.roots i < length tests) × (at labels (at cs.roots i) ≡ at cs.roots i)
    root_of i h = let many = cs.many in (cs.exact (at cs.roots i)).0 (member_get cs.roots i (omega arith))

    first_test : (i : ℕ) → i < length C → Member (at tests (at cs.roots i)) (chain_at C i)
    first_test i h = let r = root_of i h in is_listed i (at cs.roots i) h r.0 r.1

    first_least : (i t : ℕ) (l : List ℕ) → i < length C → chain_at C i ≡ t ∷ l → t ≤ at tests (at cs.roots i)
    first_least i t l h e = elim (subst (λ (z : List ℕ). Member (at tests (at cs.roots i)) z) e (first_test i h)) [
      | inl s ↦ omega arith
      | inr m ↦ let a = subst (λ (z : List ℕ). Ascending z) e (chain_rising i) in let x = a.0 (at tests (at cs.roots i)) m in omega arith
    ]

    by_firsts : (i j t u : ℕ) (l m : List ℕ) → i < j → chain_at C i ≡ t ∷ l → chain_at C j ≡ u ∷ m → t < u
    by_firsts i j t u l m lt e g =
        let b = listed j u (subst (λ (z : List ℕ). Member u z) (sym g) (inl refl)) in
        let k : j < length C = b.chain in
        let many = cs.many in
        let first = first_least i t l (omega arith) e in
        let roots = rises cs.roots cs.ascending i j lt (omega arith) in
        let low = ls.low b.place b.within in
        let label = b.label in
        let x = rises tests rising (at cs.roots i) b.place (omega arith) b.within in
        let y = b.is in
        omega arith

    pub listed_chains : AreListedChainsOf R (λ t. Member t set) C
    listed_chains = record {
      chains = record {
        within = λ i t m. let a = listed i t m in (of_set t).0 (subst (λ (z : ℕ). Member z tests) a.is (member_get tests a.place a.within));
        covered = covering;
        joined = joining;
        least = least;
        apart = chain_once;
        ascending = chain_rising;
      };
      filled = λ i h. (at tests (at cs.roots i), first_test i h);
      by_first = by_firsts;
    }

-- the same of what the code has: slices of these lists
pub chains_of_set : (R : List Edge) (set tests s t labels d : List ℕ) (C : List (List ℕ)) → GoUp 1024 R → IsAscendingOf set tests → s ≡ tests → t ≡ tests → d ≡ labels → AreLabels R s labels → AreJoined R s labels (length s) →
    AreClasses t d (length t) C → AreListedChainsOf R (λ x. Member x set) C
chains_of_set R set tests s t labels d C up a e f g ls js cs =
    listed_chains R tests labels up a.ascending (subst (λ (l : List ℕ). AreLabels R l labels) e ls) (subst (λ (l : List ℕ). AreJoined R l labels (length l)) e js) set a.exact C
    (subst (λ (l : List ℕ). AreClasses tests l (length tests) C) g (subst (λ (l : List ℕ). AreClasses l d (length l) C) f cs))
