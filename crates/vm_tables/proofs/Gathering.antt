-- Superinterfaces noted one after another.
use Rattle.std.proofs.Common.{◌≡◌, ℕ, ◌+◌, ◌*◌, ◌<◌, List, [], ◌∷◌, ◌++◌, append-nil, length, get_or, take, flat_map, All, false, true, nat_eq, sym, ◌∙◌, ap, subst, inl, inr, arith, length-append}
use Rattle.std.proofs.lemmas.{Bool.or_cases, Bool.eqb-true, List.take_more, List.Concat.flat_map-append, List.Folds.length-flat_map-take}
use Rattle.indexmap.specs.IndexSet.{insert_key, insert_all}
use Rattle.jvm_model.specs.declared.program.Program.{Program}
use Rattle.jvm_model.specs.{Classes.class_at, Classes.member, Classes.first_mentions, Classes.own_interfaces, Linked.IsClass, Linked.Linked}
use Rattle.jvm_model.proofs.Walks.{lineage_step}
use Rattle.member_lookup.proofs.Ancestry.{member_kept, member_there, member_from}
use Rattle.member_lookup.proofs.{Walking.insert_append, Walking.insert_known, MentionFacts.first_is}
use Rattle.vm_tables.specs.Interfaces.{lineage, IsClosed, Gathers}

module _ (p : Program) where
  gathers_append : (xs ys old mid new : List ℕ) → Gathers p xs old mid → Gathers p ys mid new → Gathers p (xs ++ ys) old new
  gathers_append xs ys old mid new v w = record {
    noted = w.noted ∙ (ap (λ ks. insert_all nat_eq ks ys) v.noted ∙ sym (insert_append old xs ys));
    closed = w.closed;
  }

  -- an interface that was noted before
  pub gathers_known : (i : ℕ) (old : List ℕ) → member i old ≡ true → IsClosed p old → Gathers p (lineage p i) old old
  gathers_known i old m h = record { noted = sym (insert_known old (lineage p i) (λ d n. h i d m n)); closed = h }

  -- one interface more
  pub gathers_more : (k : ℕ) (is old mid new : List ℕ) → k < length is → Gathers p (flat_map (λ i. lineage p i) (take k is)) old mid → Gathers p (lineage p (get_or is k 0)) mid new
      → Gathers p (flat_map (λ i. lineage p i) (take (k + 1) is)) old new
  gathers_more k is old mid new h v w =
      let i = get_or is k 0 in
      let joined : flat_map (λ j. lineage p j) (take (k + 1) is) ≡ flat_map (λ j. lineage p j) (take k is) ++ lineage p i =
      ap (λ (xs : List ℕ). flat_map (λ j. lineage p j) xs) (take_more is k 0 h) ∙ (flat_map-append (λ j. lineage p j) (take k is) (i ∷ []) ∙ ap (λ (xs : List ℕ). flat_map (λ j. lineage p j) (take k is) ++ xs) (append-nil (lineage p i))) in
      subst (λ xs. Gathers p xs old new) (sym joined) (gathers_append (flat_map (λ j. lineage p j) (take k is)) (lineage p i) old mid new v w)

  module _ (l : Linked p) where
    -- an interface behind those above it
    pub gathers_one : (i : ℕ) (xs old mid new : List ℕ) → IsClass p i → xs ≡ (class_at p i).interfaces → Gathers p (flat_map (λ j. lineage p j) xs) old mid → new ≡ insert_key nat_eq mid i → Gathers p (lineage p i) old new
    gathers_one i xs old mid new h e v n =
        let above = flat_map (λ j. lineage p j) xs in
        let whole : lineage p i ≡ above ++ (i ∷ []) = lineage_step p l i h ∙ ap (λ (ys : List ℕ). flat_map (λ j. lineage p j) ys ++ (i ∷ [])) (sym e) in
        let all : new ≡ insert_all nat_eq old (lineage p i) = n ∙ (ap (λ ks. insert_key nat_eq ks i) v.noted ∙ (sym (insert_append old above (i ∷ [])) ∙ ap (λ ys. insert_all nat_eq old ys) (sym whole))) in
        let kept : (d : ℕ) → member d mid ≡ true → member d new ≡ true = λ d m. ap (λ ks. member d ks) n ∙ member_kept mid (i ∷ []) d m in
        let own : (d : ℕ) → member d (lineage p i) ≡ true → member d new ≡ true = λ d m. ap (λ ks. member d ks) all ∙ member_there old (lineage p i) d m in
        record {
          noted = all;
          closed = λ d q m r. elim (member_from mid (i ∷ []) d (ap (λ ks. member d ks) (sym n) ∙ m)) [
            | inl before ↦ kept q (v.closed d q before r)
            | inr here ↦ elim (or_cases (nat_eq d i) false here) [
              | inl s ↦ own q (subst (λ x. member q (lineage p x) ≡ true) (eqb-true d i s) r)
              | inr none ↦ absurd (cc)
            ]
          ];
        }

    -- ---- how much is left

    pub one_shorter : (k : ℕ) (is : List ℕ) → k < length is → 2 * length (lineage p (get_or is k 0)) < 2 * length (flat_map (λ j. lineage p j) is) + 1
    one_shorter k is h = omega (arith, length-flat_map-take (λ j. lineage p j) is k 0 h)

    pub above_shorter : (i : ℕ) (xs : List ℕ) → IsClass p i → xs ≡ (class_at p i).interfaces → 2 * length (flat_map (λ j. lineage p j) xs) + 1 < 2 * length (lineage p i)
    above_shorter i xs h e =
        let above = flat_map (λ j. lineage p j) xs in
        let whole : lineage p i ≡ above ++ (i ∷ []) = lineage_step p l i h ∙ ap (λ (ys : List ℕ). flat_map (λ j. lineage p j) ys ++ (i ∷ [])) (sym e) in
        omega (arith, ap (length {A = ℕ}) whole, length-append above (i ∷ []))

    pub interfaces_there : (i : ℕ) (xs : List ℕ) → IsClass p i → xs ≡ (class_at p i).interfaces → All (λ j. IsClass p j) xs
    interfaces_there i xs h e = subst (λ ys. All (λ j. IsClass p j) ys) (sym e) (l.numbers.classes i h).interfaces

  -- what is noted from nothing
  pub own_gathered : (c : ℕ) (xs old new : List ℕ) → xs ≡ (class_at p c).interfaces → old ≡ [] → Gathers p (flat_map (λ j. lineage p j) xs) old new → new ≡ own_interfaces p c
  unfolding own_interfaces
  own_gathered c xs old new e n g =
      g.noted ∙ (ap (λ ks. insert_all nat_eq ks (flat_map (λ j. lineage p j) xs)) n ∙ (first_is (flat_map (λ j. lineage p j) xs) ∙ ap (λ (ys : List ℕ). first_mentions (flat_map (λ j. lineage p j) ys)) e))
