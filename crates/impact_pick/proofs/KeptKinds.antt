-- Class and array types of kept classes have one number in both lists.
use Rattle.std.proofs.Common.{◌≡◌, ℕ, List, [], ◌∷◌, drop, Bool, true, false, cond, nat_eq, nat_le, refl, ◌∙◌, ap, subst, Option, Some, None}
use Rattle.std.specs.Prelude.{option_map}
use Rattle.code_decode.specs.Judging.{dimensions}
use Rattle.class_reader.specs.declared.parts.ClassParts.{ClassParts}
use Rattle.et_base.specs.Names.{starts_array}
use Rattle.jvm_model.specs.{declared.values.Base.Base, declared.values.Kind.Kind, Linked.IsDistinct}
use Rattle.jvm_model.specs.declared.values.Base.TheVariants as base
use Rattle.jvm_model.specs.declared.values.Kind.TheVariants as kind
use Rattle.class_link.specs.ClassNames.{all_names, class_number, needed_class, within_type, element_class, base_of, array_kind, kind_of}
use Rattle.class_link.specs.Assembly.{skeleton}
use Rattle.order_law.specs.Pairing.{PairedBase, booleans, bytes, chars, shorts, int_bases, long_bases, class_bases, PairedKind, class_kinds, array_kinds}
use Rattle.order_law.specs.Numbers.{Tested}
use Rattle.impact_pick.specs.ByName.{same_class}
use Rattle.impact_pick.proofs.{ByNames.class_from, Names.AreKept, Names.IsKept, Names.number_alike}

module _ (cs ds : List ClassParts) (keeps : ℕ → Bool) (kept : AreKept cs ds keeps) (dq : IsDistinct (skeleton ds)) where
  abbrev C : ℕ → ℕ → Type 0
  C = Tested (same_class keeps)

  -- each class of this name is kept
  abbrev pub KeepsNamed : Option (List ℕ) → Type 0
  KeepsNamed o = (us : List ℕ) (d : ℕ) → o ≡ Some us → class_number (all_names cs) us ≡ Some d → IsKept cs ds keeps d

  class_itself : (d : ℕ) → IsKept cs ds keeps d → C d d
  class_itself d k = class_from keeps (skeleton cs) (skeleton ds) d k

  -- ---- classes

  record NumberAlike {A : Type 0} (make : ℕ → A) (us : List ℕ) (x : A) : Type 0 where
    number : ℕ
    is : make number ≡ x
    kept_is : IsKept cs ds keeps number
    there : class_number (all_names ds) us ≡ Some number

  number_of_name : {A : Type 0} (make : ℕ → A) (us : List ℕ) (x : A) (o : Option ℕ) → class_number (all_names cs) us ≡ o → option_map make o ≡ Some x → ((d : ℕ) → class_number (all_names cs) us ≡ Some d → IsKept cs ds keeps d) → NumberAlike make us x
  number_of_name make us x None e g k = absurd (cc)
  number_of_name make us x (Some d) e g k = record { number = d; is = (cc); kept_is = k d e; there = number_alike cs ds keeps kept dq us d e (k d e) }

  -- ---- the innermost element types of arrays

  abbrev BaseAlike : List ℕ → Base → Type 0
  BaseAlike t b = (base_of (all_names ds) t ≡ Some b) × PairedBase C b b

  pick : (test : Bool) (x b : Base) (r s : Option Base) → PairedBase C x x → cond test (Some x) r ≡ Some b → (r ≡ Some b → (s ≡ Some b) × PairedBase C b b) → (cond test (Some x) s ≡ Some b) × PairedBase C b b
  pick true x b r s p e f = let k : x ≡ b = cc in (e, subst (λ (z : Base). PairedBase C z z) k p)
  pick false x b r s p e f = f e

  class_base : (us : List ℕ) (b : Base) (test : Bool) → KeepsNamed (cond test (Some (within_type us)) None) → cond test (option_map (λ c. base.Class c) (class_number (all_names cs) (within_type us))) None ≡ Some b →
      (cond test (option_map (λ c. base.Class c) (class_number (all_names ds) (within_type us))) None ≡ Some b) × PairedBase C b b
  class_base us b false k e = absurd (cc)
  class_base us b true k e =
      let a = number_of_name (λ c. base.Class c) (within_type us) b (class_number (all_names cs) (within_type us)) refl e (λ d g. k (within_type us) d refl g) in
      (ap (λ (o : Option ℕ). option_map (λ c. base.Class c) o) a.there ∙ ap (λ (z : Base). Some z) a.is, subst (λ (z : Base). PairedBase C z z) a.is (class_bases (class_itself a.number a.kept_is)))

  base_alike : (t : List ℕ) (b : Base) → KeepsNamed (element_class t) → base_of (all_names cs) t ≡ Some b → BaseAlike t b
  base_alike [] b k e = absurd (cc)
  base_alike (u ∷ us) b k e =
      pick (nat_eq u 90) base.Boolean b _ _ booleans e (λ e.
      pick (nat_eq u 66) base.Byte b _ _ bytes e (λ e.
      pick (nat_eq u 67) base.Char b _ _ chars e (λ e.
      pick (nat_eq u 83) base.Short b _ _ shorts e (λ e.
      pick (nat_eq u 73) base.Int b _ _ int_bases e (λ e.
      pick (nat_eq u 74) base.Long b _ _ long_bases e (λ e. class_base us b (nat_eq u 76) k e))))))

  -- ---- types

  record ArrayIs (d : ℕ) (o : Option Base) (k : Kind) : Type 0 where
    base : Base
    is : o ≡ Some base
    made : kind.Array d base ≡ k

  array_is : (d : ℕ) (o : Option Base) (k : Kind) → option_map (λ b. kind.Array d b) o ≡ Some k → ArrayIs d o k
  array_is d None k e = absurd (cc)
  array_is d (Some b) k e = record { base = b; is = refl; made = (cc) }

  array_alike : (us : List ℕ) (k : Kind) (few : Bool) → KeepsNamed (element_class (drop (dimensions us) us)) →
      cond few (option_map (λ b. kind.Array (dimensions us) b) (base_of (all_names cs) (drop (dimensions us) us))) None ≡ Some k →
      (cond few (option_map (λ b. kind.Array (dimensions us) b) (base_of (all_names ds) (drop (dimensions us) us))) None ≡ Some k) × PairedKind C k k
  array_alike us k false h e = absurd (cc)
  array_alike us k true h e =
      let a = array_is (dimensions us) (base_of (all_names cs) (drop (dimensions us) us)) k e in
      let b = base_alike (drop (dimensions us) us) a.base h a.is in
      (ap (λ (o : Option Base). option_map (λ z. kind.Array (dimensions us) z) o) b.0 ∙ ap (λ (z : Kind). Some z) a.made, subst (λ (z : Kind). PairedKind C z z) a.made (array_kinds (dimensions us) b.1))

  -- the type that a Class entry's name stands for, where the class that it needs is kept
  pub kind_alike : (us : List ℕ) (k : Kind) → KeepsNamed (needed_class us) → kind_of (all_names cs) us ≡ Some k → (kind_of (all_names ds) us ≡ Some k) × PairedKind C k k
  unfolding kind_of needed_class
  kind_alike us k = by_test (starts_array us)
    where
      by_test : (b : Bool) → KeepsNamed (cond b (element_class (drop (dimensions us) us)) (Some us)) → cond b (array_kind (all_names cs) us) (option_map (λ c. kind.Class c) (class_number (all_names cs) us)) ≡ Some k →
          (cond b (array_kind (all_names ds) us) (option_map (λ c. kind.Class c) (class_number (all_names ds) us)) ≡ Some k) × PairedKind C k k
      by_test true h e = array_alike us k (nat_le (dimensions us) 255) h e
      by_test false h e =
          let a = number_of_name (λ c. kind.Class c) us k (class_number (all_names cs) us) refl e (λ d g. h us d refl g) in
          (ap (λ (o : Option ℕ). option_map (λ c. kind.Class c) o) a.there ∙ ap (λ (z : Kind). Some z) a.is, subst (λ (z : Kind). PairedKind C z z) a.is (class_kinds (class_itself a.number a.kept_is)))
