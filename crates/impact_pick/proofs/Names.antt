-- Classes that two lists of class files have alike: their names have one number in both.
use Rattle.std.proofs.Common.{◌≡◌, ◌⊎◌, ℕ, zero, suc, ◌+◌, ◌-◌, ◌<◌, ◌≤◌, List, [], ◌∷◌, ◌++◌, length, map, get_or, slice_get, filter, Bool, true, false, nat_eq, nat_lt, refl, sym, ◌∙◌, ap, subst, inl, inr, arith, Option, Some}
use Rattle.std.specs.Prelude.{flat_map, option_and_then}
use Rattle.std.specs.{Option.option_to_list, List.range_with_len, List.position_or_len, Str.bytes_eq}
use Rattle.std.proofs.lemmas.Bool.{eqb-true, eqb-false, cases_lt, cases_Bool, eq-eqb, or_left, or_right, lt-ltb, false_from_ne_true}
use Rattle.std.proofs.lemmas.List.{get_or_append_left, get_or-append-add, length-append, length-map, Folds.list_any_at, Sums.position_or_len_is}
use Rattle.std.proofs.lemmas.Option.{slice_get_within, get_or_from_slice_get}
use Rattle.et_base.proofs.Texts.{units_true, units_same}
use Rattle.class_pool.specs.{declared.pool.Entry.Entry, Pool.entry_of}
use Rattle.class_pool.specs.declared.pool.Entry.TheVariants as entry
use Rattle.class_reader.specs.declared.parts.ClassParts.{ClassParts}
use Rattle.jvm_model.specs.declared.program.ClassRec.{ClassRec}
use Rattle.jvm_model.specs.{Builtin.builtin_count, Library.builtin_classes, Classes.class_at, Classes.member, Linked.IsClass, Linked.IsDistinct}
use Rattle.jvm_model.proofs.{BuiltinRules.lengths, Interfaces.member-flat_map}
use Rattle.class_link.specs.ClassNames.{text_at, own_name, all_names, class_number, needed_class}
use Rattle.class_link.specs.Assembly.{mentioned_by, given_classes, mentions, skeleton, bare_body}
use Rattle.class_link.proofs.{Blocks.at_place, Pools.standing, Numbered.number_found, Numbered.names_length, Numbered.name_of_class}

-- ---- numbers of names

-- where no name before a place is this one, and that of the place is, the place is its number
number_at : (names : List (List ℕ)) (us : List ℕ) (d : ℕ) → d < length names → get_or names d [] ≡ us → ((k : ℕ) → k < d → get_or names k [] ≡ us → ⊥) → class_number names us ≡ Some d
number_at names us d h e before =
    let p : position_or_len (bytes_eq us) names ≡ d = position_or_len_is (bytes_eq us) names d [] (omega arith)
    (λ k l. false_from_ne_true (bytes_eq us (get_or names k [])) (λ t. before k l (sym (units_true us (get_or names k []) t)))) (λ l. units_same us (get_or names d []) (sym e)) in
    let l : nat_lt d (length names) ≡ true = lt-ltb d (length names) h in
    rw (p, l) refl

module _ (ds : List ClassParts) (dq : IsDistinct (skeleton ds)) where
  name_there : (k : ℕ) → k < length (all_names ds) → (IsClass (skeleton ds) k) × (get_or (all_names ds) k [] ≡ (class_at (skeleton ds) k).name)
  name_there k h = let n = names_length (λ c code. bare_body code) ds [] [] in let i : IsClass (skeleton ds) k = omega arith in (i, name_of_class (λ c code. bare_body code) ds [] [] k i)

  -- names differ, so each place of a name is its number
  pub number_of : (us : List ℕ) (d : ℕ) → d < length (all_names ds) → get_or (all_names ds) d [] ≡ us → class_number (all_names ds) us ≡ Some d
  number_of us d h e = number_at (all_names ds) us d h e (λ k l f.
      let a = name_there k (omega arith) in
      let b = name_there d h in
      let z = dq.classes k d a.0 b.0 (sym a.1 ∙ (f ∙ (sym e ∙ b.1))) in
      omega arith)

-- ---- classes that are kept

module _ (cs ds : List ClassParts) (keeps : ℕ → Bool) where
  -- The kept classes are given ones whose files stand at the same places in both lists, and with each all that it mentions is
  -- kept.
  pub record AreKept : Type 0 where
    pub given : (c : ℕ) → keeps c ≡ true → builtin_count ≤ c
    pub within : (c : ℕ) → keeps c ≡ true → c < builtin_count + length cs
    pub agree : (i : ℕ) (c : ClassParts) → keeps (builtin_count + i) ≡ true → slice_get cs i ≡ Some c → slice_get ds i ≡ Some c
    pub closed : (i d : ℕ) (c : ClassParts) → keeps (builtin_count + i) ≡ true → slice_get cs i ≡ Some c → member d (mentions (all_names cs) c.pool) ≡ true → keeps d ≡ true

  -- the file of a kept class
  pub record KeptFile (c : ℕ) : Type 0 where
    pub place : ℕ
    pub is : builtin_count + place ≡ c
    pub keep : keeps (builtin_count + place) ≡ true
    pub parts : ClassParts
    pub first : slice_get cs place ≡ Some parts
    pub second : slice_get ds place ≡ Some parts

  pub kept_file : AreKept → (c : ℕ) → keeps c ≡ true → KeptFile c
  kept_file kept c k =
      let low = kept.given c k in
      let high = kept.within c k in
      let s : builtin_count + (c - builtin_count) ≡ c = omega arith in
      let a = at_place cs (c - builtin_count) (omega arith) in
      let e = subst (λ (x : ℕ). keeps x ≡ true) (sym s) k in
      record { place = c - builtin_count; is = s; keep = e; parts = a.item; first = a.there; second = kept.agree (c - builtin_count) a.item e a.there }

  abbrev pub IsKept : ℕ → Type 0
  IsKept d = (d < builtin_count) ⊎ (keeps d ≡ true)

  module _ (kept : AreKept) (dq : IsDistinct (skeleton ds)) where
    abbrev builtin_names : List (List ℕ)
    builtin_names = map (λ (x : ClassRec). x.name) builtin_classes

    builtin_long : length builtin_names ≡ builtin_count
    builtin_long = length-map builtin_classes (λ (x : ClassRec). x.name) ∙ lengths.0

    at_builtin : (es : List ClassParts) (d : ℕ) → d < builtin_count → (d < length (all_names es)) × (get_or (all_names es) d [] ≡ get_or builtin_names d [])
    unfolding all_names
    at_builtin es d h = let n = builtin_long in let l = length-append builtin_names (map own_name es) in (omega arith, get_or_append_left builtin_names (map own_name es) [] d (omega arith))

    own_at : (es : List ClassParts) (i : ℕ) (c : ClassParts) → slice_get es i ≡ Some c → get_or (map own_name es) i [] ≡ own_name c
    own_at [] i c h = absurd (cc)
    own_at (e ∷ es) zero c h = let k : e ≡ c = cc in ap own_name k
    own_at (e ∷ es) (suc i) c h = own_at es i c h

    at_given : (es : List ClassParts) (i : ℕ) (c : ClassParts) → slice_get es i ≡ Some c → (builtin_count + i < length (all_names es)) × (get_or (all_names es) (builtin_count + i) [] ≡ own_name c)
    unfolding all_names
    at_given es i c h =
        let n = builtin_long in
        let l = length-append builtin_names (map own_name es) in
        let m = length-map es own_name in
        let w = slice_get_within es i c h in
        (omega arith, ap (λ (k : ℕ). get_or (builtin_names ++ map own_name es) (k + i) []) (sym n) ∙ (get_or-append-add builtin_names (map own_name es) i [] ∙ own_at es i c h))

    names_long : (es : List ClassParts) → length (all_names es) ≡ builtin_count + length es
    unfolding all_names
    names_long es = let n = builtin_long in let l = length-append builtin_names (map own_name es) in let m = length-map es own_name in omega arith

    -- a kept class has its name in both
    name_alike : (d : ℕ) → d < length (all_names cs) → IsKept d → (d < length (all_names ds)) × (get_or (all_names ds) d [] ≡ get_or (all_names cs) d [])
    name_alike d h k = elim k [
      | inl b ↦ let x = at_builtin cs d b in let y = at_builtin ds d b in (y.0, y.1 ∙ sym x.1)
      | inr e ↦
          let f = kept_file kept d e in
          let x = at_given cs f.place f.parts f.first in
          let y = at_given ds f.place f.parts f.second in
          (subst (λ (z : ℕ). z < length (all_names ds)) f.is y.0, subst (λ (z : ℕ). get_or (all_names ds) z [] ≡ get_or (all_names cs) z []) f.is (y.1 ∙ sym x.1))
    ]

    -- and its number
    pub number_alike : (us : List ℕ) (d : ℕ) → class_number (all_names cs) us ≡ Some d → IsKept d → class_number (all_names ds) us ≡ Some d
    number_alike us d e k = let f = number_found (all_names cs) us d e in let a = name_alike d f.0 k in number_of ds dq us d a.0 (a.1 ∙ f.1)

    -- ---- what a kept class's pool names is kept

    flat_has : (f : Option Entry → List ℕ) (xs : List (Option Entry)) (k : ℕ) (x : Option Entry) (d : ℕ) → slice_get xs k ≡ Some x → member d (f x) ≡ true → member d (flat_map f xs) ≡ true
    flat_has f xs k x d h e = member-flat_map d f xs ∙ list_any_at (λ y. member d (f y)) xs k x (slice_get_within xs k x h) (ap (λ (y : Option Entry). member d (f y)) (get_or_from_slice_get xs k x x h) ∙ e)

    filter_has : (f : ℕ → Bool) (xs : List ℕ) (d : ℕ) → member d xs ≡ true → f d ≡ true → member d (filter f xs) ≡ true
    filter_has f [] d e g = absurd (cc)
    filter_has f (x ∷ xs) d e g = elim (cases_Bool (nat_eq d x)) [
      | inl t ↦ let q : d ≡ x = eqb-true d x t in let s : f x ≡ true = ap f (sym q) ∙ g in rw s (or_left (nat_eq d x) _ t)
      | inr t ↦ elim (cases_Bool (f x)) [
        | inl s ↦ rw s (or_right (nat_eq d x) _ (filter_has f xs d (rw t at e) g))
        | inr s ↦ rw s (filter_has f xs d (rw t at e) g)
      ]
    ]

    range_has : (n a d : ℕ) → a ≤ d → d < a + n → member d (range_with_len a n) ≡ true
    range_has zero a d lo hi = absurd (omega arith)
    range_has (suc n) a d lo hi = elim (cases_Bool (nat_eq d a)) [
      | inl t ↦ or_left (nat_eq d a) _ t
      | inr t ↦ or_right (nat_eq d a) _ (range_has n (a + 1) d (let q = eqb-false d a t in omega arith) (omega arith))
    ]

    -- the class that a Class entry of a kept class needs
    pub entry_kept : (i k name d : ℕ) (c : ClassParts) (us : List ℕ) → keeps (builtin_count + i) ≡ true → slice_get cs i ≡ Some c → entry_of c.pool k ≡ Some (entry.Class name) →
        needed_class (text_at c.pool name) ≡ Some us → class_number (all_names cs) us ≡ Some d → IsKept d
    entry_kept i k name d c us e h g nd num = elim (cases_lt d builtin_count) [
      | inl l ↦ inl l
      | inr l ↦
          let s = standing c.pool k (entry.Class name) g in
          let one : mentioned_by (all_names cs) c.pool (Some (entry.Class name)) ≡ d ∷ [] = ap (λ (o : Option (List ℕ)). option_to_list (option_and_then (class_number (all_names cs)) o)) nd ∙ ap (λ (o : Option ℕ). option_to_list o) num in
          let f = number_found (all_names cs) us d num in
          let w = f.0 in
          inr (kept.closed i d c e h (filter_has (λ z. member z (flat_map (mentioned_by (all_names cs) c.pool) c.pool)) (given_classes (all_names cs)) d (range_has (length (all_names cs) - builtin_count) builtin_count d l (omega arith))
          (flat_has (mentioned_by (all_names cs) c.pool) c.pool s.place (Some (entry.Class name)) d s.there (ap (member d) one ∙ or_left (nat_eq d d) false (eq-eqb d d refl)))))
    ]
