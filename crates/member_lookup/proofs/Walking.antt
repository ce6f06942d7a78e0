-- Walks over the classes above a class.
use Rattle.std.proofs.Common.{◌≡◌, ℕ, zero, suc, ◌+◌, ◌-◌, ◌<◌, ◌≤◌, List, [], ◌∷◌, ◌++◌, length, get_or, take, flat_map, append-nil, Bool, true, false, cond, if◌then◌else◌, nat_eq, refl, sym, ◌∙◌, ap, subst, inl, inr, arith, Option, Some, None}
use Rattle.std.proofs.lemmas.Bool.{or_cases, or_left, or_right, eqb-true, eq-eqb, leb-true}
use Rattle.std.proofs.lemmas.List.{take_more, Concat.flat_map-append}
use Rattle.std.specs.{Map.keys_of, Option.option_to_list}
use Rattle.indexmap.specs.{IndexMap.IndexMap, IndexMap.get, IndexMap.keys, IndexSet.insert_key, IndexSet.insert_all}
use Rattle.jvm_model.specs.{declared.program.Program.Program, Classes.class_at, Classes.member}
use Rattle.member_lookup.specs.Walks.{nexts, walk, IsWalked, Visits, is_walked}
use Rattle.member_lookup.proofs.Ancestry.{any_append, member_kept, member_there}

-- ---- noting numbers

pub insert_append : (ks xs ys : List ℕ) → insert_all nat_eq ks (xs ++ ys) ≡ insert_all nat_eq (insert_all nat_eq ks xs) ys
insert_append ks [] ys = refl
insert_append ks (x ∷ xs) ys = insert_append (insert_key nat_eq ks x) xs ys

known_key : (ks : List ℕ) (x : ℕ) → member x ks ≡ true → insert_key nat_eq ks x ≡ ks
known_key ks x m = ap (λ b. if b then ks else ks ++ x ∷ []) m

pub insert_known : (ks xs : List ℕ) → ((d : ℕ) → member d xs ≡ true → member d ks ≡ true) → insert_all nat_eq ks xs ≡ ks
insert_known ks [] f = refl
insert_known ks (x ∷ xs) f =
    let e = known_key ks x (f x (or_left (nat_eq x x) (member x xs) (eq-eqb x x refl))) in
    ap (λ l. insert_all nat_eq l xs) e ∙ insert_known ks xs (λ d m. f d (or_right (nat_eq d x) (member d xs) m))

-- ---- more steps reach more

module _ (p : Program) (supers : Bool) where
  all_more : (k n d : ℕ) (cs : List ℕ) → ((c : ℕ) → member d (walk p supers k c) ≡ true → member d (walk p supers n c) ≡ true) → member d (flat_map (λ x. walk p supers k x) cs) ≡ true → member d (flat_map (λ x. walk p supers n x) cs) ≡ true
  all_more k n d [] f m = m
  all_more k n d (c ∷ cs) f m = any_append d (walk p supers n c) (flat_map (λ x. walk p supers n x) cs) ∙ elim (or_cases (member d (walk p supers k c)) (member d (flat_map (λ x. walk p supers k x) cs)) (sym (any_append d (walk p supers k c) (flat_map (λ x. walk p supers k x) cs)) ∙ m)) [
    | inl q ↦ or_left (member d (walk p supers n c)) (member d (flat_map (λ x. walk p supers n x) cs)) (f c q)
    | inr q ↦ or_right (member d (walk p supers n c)) (member d (flat_map (λ x. walk p supers n x) cs)) (all_more k n d cs f q)
  ]

  more : (k n c d : ℕ) → k ≤ n → member d (walk p supers k c) ≡ true → member d (walk p supers n c) ≡ true
  more zero n c d h m = absurd (cc)
  more (suc k) zero c d h m = absurd (omega arith)
  more (suc k) (suc n) c d h m = elim (or_cases (nat_eq d c) (member d (flat_map (λ x. walk p supers k x) (nexts p supers c))) m) [
    | inl q ↦ or_left (nat_eq d c) (member d (flat_map (λ x. walk p supers n x) (nexts p supers c))) q
    | inr q ↦ or_right (nat_eq d c) (member d (flat_map (λ x. walk p supers n x) (nexts p supers c))) (all_more k n d (nexts p supers c) (λ x r. more k n x d (omega arith) r) q)
  ]

  walk_step : (k c : ℕ) → 0 < k → walk p supers k c ≡ c ∷ flat_map (λ d. walk p supers (k - 1) d) (nexts p supers c)
  walk_step zero c h = absurd (omega arith)
  walk_step (suc k) c h = let e : k ≡ suc k - 1 = omega arith in ap (λ n. c ∷ flat_map (λ d. walk p supers n d) (nexts p supers c)) e

  module _ {S : Type 0} where
    -- nothing is visited
    pub visits_none : (old : IndexMap ℕ ℕ S) → IsWalked p supers old → Visits p supers [] old old
    visits_none old w = record { noted = refl; walked = w }

    -- one visit after another
    pub visits_append : (xs ys : List ℕ) (old mid new : IndexMap ℕ ℕ S) → Visits p supers xs old mid → Visits p supers ys mid new → Visits p supers (xs ++ ys) old new
    visits_append xs ys old mid new v w = record {
      noted = w.noted ∙ ap (λ ks. insert_all nat_eq ks ys) v.noted ∙ sym (insert_append (keys old) xs ys);
      walked = w.walked;
    }

    walked_enough : (k c : ℕ) (o : Option ℕ) (old : IndexMap ℕ ℕ S) → get nat_eq old c ≡ o → is_walked k o ≡ true → IsWalked p supers old → (d : ℕ) → member d (walk p supers k c) ≡ true → member d (keys old) ≡ true
    walked_enough k c None old e h w d m = absurd (cc)
    walked_enough k c (Some n) old e h w d m = w c n e d (more k n c d (leb-true k n h) m)

    -- a class that was walked far enough
    pub visits_known : (k c : ℕ) (old : IndexMap ℕ ℕ S) → is_walked k (get nat_eq old c) ≡ true → IsWalked p supers old → Visits p supers (walk p supers k c) old old
    visits_known k c old h w = record {
      noted = sym (insert_known (keys old) (walk p supers k c) (walked_enough k c (get nat_eq old c) old refl h w));
      walked = w;
    }

    noted_at : (k c q j : ℕ) (b : Bool) (old new : IndexMap ℕ ℕ S) → nat_eq c q ≡ b → get nat_eq new q ≡ cond b (Some k) (get nat_eq old q) → get nat_eq new q ≡ Some j → keys new ≡ insert_key nat_eq (keys old) c
        → ((d : ℕ) → member d (walk p supers k c) ≡ true → member d (keys new) ≡ true) → IsWalked p supers old → (d : ℕ) → member d (walk p supers j q) ≡ true → member d (keys new) ≡ true
    noted_at k c q j true old new e u g n f w d m =
        let same : c ≡ q = eqb-true c q e in
        let steps : j ≡ k = cc in
        f d (subst (λ x. member d (walk p supers k x) ≡ true) (sym same) (subst (λ x. member d (walk p supers x q) ≡ true) steps m))
    noted_at k c q j false old new e u g n f w d m = subst (λ ks. member d ks ≡ true) (sym n) (member_kept (keys old) (c ∷ []) d (w q j (sym u ∙ g) d m))

    -- a class is noted with a number of steps, where all that is so far above it is noted
    pub walked_with : (k c : ℕ) (old new : IndexMap ℕ ℕ S) → ((q : ℕ) → get nat_eq new q ≡ cond (nat_eq c q) (Some k) (get nat_eq old q)) → keys new ≡ insert_key nat_eq (keys old) c
        → ((d : ℕ) → member d (walk p supers k c) ≡ true → member d (keys new) ≡ true) → IsWalked p supers old → IsWalked p supers new
    walked_with k c old new u n f w q j g d m = noted_at k c q j (nat_eq c q) old new refl (u q) g n f w d m

    -- a class is noted, and nothing above it yet
    pub walked_start : (c : ℕ) (old new : IndexMap ℕ ℕ S) → ((q : ℕ) → get nat_eq new q ≡ cond (nat_eq c q) (Some 0) (get nat_eq old q)) → keys new ≡ insert_key nat_eq (keys old) c → IsWalked p supers old → IsWalked p supers new
    walked_start c old new u n w = walked_with 0 c old new u n (λ d m. absurd (cc)) w

    -- a class and those above it
    pub visits_walk : (k c : ℕ) (old first mid last : IndexMap ℕ ℕ S) → 0 < k → keys first ≡ insert_key nat_eq (keys old) c → Visits p supers (flat_map (λ d. walk p supers (k - 1) d) (nexts p supers c)) first mid
        → ((q : ℕ) → get nat_eq last q ≡ cond (nat_eq c q) (Some k) (get nat_eq mid q)) → keys last ≡ insert_key nat_eq (keys mid) c → Visits p supers (walk p supers k c) old last
    visits_walk k c old first mid last h e v u n =
        let above = flat_map (λ d. walk p supers (k - 1) d) (nexts p supers c) in
        let there : keys mid ≡ insert_all nat_eq (keys old) (c ∷ above) = v.noted ∙ ap (λ ks. insert_all nat_eq ks above) e in
        let all : keys mid ≡ insert_all nat_eq (keys old) (walk p supers k c) = there ∙ ap (λ xs. insert_all nat_eq (keys old) xs) (sym (walk_step k c h)) in
        let own : member c (keys mid) ≡ true = subst (λ ks. member c ks ≡ true) (sym there) (member_there (keys old) (c ∷ above) c (or_left (nat_eq c c) (member c above) (eq-eqb c c refl))) in
        let done : keys last ≡ insert_all nat_eq (keys old) (walk p supers k c) = n ∙ known_key (keys mid) c own ∙ all in
        record {
          noted = done;
          walked = walked_with k c mid last u n (λ d m. subst (λ ks. member d ks ≡ true) (sym done) (member_there (keys old) (walk p supers k c) d m)) v.walked;
        }

    -- one list more
    pub visits_more : (g : ℕ → List ℕ) (i : ℕ) (cs : List ℕ) (old mid new : IndexMap ℕ ℕ S) → i < length cs → Visits p supers (flat_map g (take i cs)) old mid → Visits p supers (g (get_or cs i 0)) mid new → Visits p supers (flat_map g (take (i + 1) cs)) old new
    visits_more g i cs old mid new h v w =
        let c = get_or cs i 0 in
        let joined : flat_map g (take (i + 1) cs) ≡ flat_map g (take i cs) ++ g c = ap (λ xs. flat_map g xs) (take_more cs i 0 h) ∙ flat_map-append g (take i cs) (c ∷ []) ∙ ap (λ xs. flat_map g (take i cs) ++ xs) (append-nil (g c)) in
        subst (λ xs. Visits p supers xs old new) (sym joined) (visits_append (flat_map g (take i cs)) (g c) old mid new v w)

    -- the superinterfaces and then the superclass
    pub visits_nexts : (k c : ℕ) (xs : List ℕ) (old mid new : IndexMap ℕ ℕ S) → xs ≡ (class_at p c).interfaces → Visits p supers (flat_map (λ d. walk p supers k d) xs) old mid
        → Visits p supers (flat_map (λ d. walk p supers k d) (cond supers (option_to_list (class_at p c).superclass) [])) mid new → Visits p supers (flat_map (λ d. walk p supers k d) (nexts p supers c)) old new
    visits_nexts k c xs old mid new e v w =
        let above = cond supers (option_to_list (class_at p c).superclass) [] in
        let joined : flat_map (λ d. walk p supers k d) (nexts p supers c) ≡ flat_map (λ d. walk p supers k d) xs ++ flat_map (λ d. walk p supers k d) above =
        flat_map-append (λ d. walk p supers k d) (class_at p c).interfaces above ∙ ap (λ (ys : List ℕ). flat_map (λ d. walk p supers k d) ys ++ flat_map (λ d. walk p supers k d) above) (sym e) in
        subst (λ ys. Visits p supers ys old new) (sym joined) (visits_append (flat_map (λ d. walk p supers k d) xs) (flat_map (λ d. walk p supers k d) above) old mid new v w)

    -- what a walk from nothing notes
    pub visits_all : (xs : List ℕ) (old new : IndexMap ℕ ℕ S) → old.entries ≡ [] → Visits p supers xs old new → keys new ≡ insert_all nat_eq [] xs
    visits_all xs old new e v = v.noted ∙ ap (λ ks. insert_all nat_eq ks xs) (ap keys_of e)
