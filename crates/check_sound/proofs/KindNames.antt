-- What is an instance of a kind by the numbers of classes, as the machine tests it, is one by their names, as the check says it.
use Rattle.std.proofs.Common.{◌≡◌, ℕ, zero, suc, ◌-◌, ◌<◌, List, [], ◌∷◌, ◌++◌, length, take, replicate, true, ◌&&◌, ◌||◌, nat_eq, nat_lt, refl, sym, ◌∙◌, ap, subst, arith, inl, inr}
use Rattle.std.specs.Prelude.{flat_map}
use Rattle.std.proofs.lemmas.Bool.{cases_Bool, and_parts, or_cases, or_left, or_right, eqb-true, eq-eqb, ltb-true}
use Rattle.std.proofs.{lemmas.List.length-append, Math.Seq.take-append_seam}
use Rattle.jvm_model.specs.declared.{values.Base.Base, values.Kind.Kind, program.Program.Program}
use Rattle.jvm_model.specs.declared.values.Base.TheVariants as base
use Rattle.jvm_model.specs.declared.values.Kind.TheVariants as kind
use Rattle.jvm_model.specs.{Builtin.object_class, Kinds.class_fits, Kinds.base_fits, Kinds.is_object, Kinds.kind_fits}
use Rattle.jvm_model.specs.Classes.{is_below, implements, upwards, own_interfaces, member}
use Rattle.jvm_model.specs.Linked.{Linked, IsClass, IsKind, IsBase, is_interface_at}
use Rattle.jvm_model.proofs.{Upwards.below_same, Interfaces.member-flat_map}
use Rattle.type_frames.specs.Descriptors.{class_name, name_of, kind_name, base_text}
use Rattle.type_frames.specs.{Assign.takes_any, Assign.element_fits, Assign.object_fits, TypedState.IsInstance}
use Rattle.type_frames.specs.Assign as named
use Rattle.check_sound.proofs.Instances.{takes_all, below_instance, plain_name, plain_fits, named_any}
use Rattle.check_sound.proofs.SelectLaws.{any_some, own}

-- a class's name in the text of a type
pub class_within : (a : List ℕ) → class_name (a ++ 59 ∷ []) ≡ a
class_within a =
    let n : length (a ++ 59 ∷ []) - 1 ≡ length a = (let e = length-append a (59 ∷ []) in omega arith) in
    ap (λ k. take k (a ++ 59 ∷ [])) n ∙ take-append_seam a (59 ∷ [])

module _ (p : Program) (lk : Linked p) where
  -- by number, and by name
  class_instance : (c d : ℕ) → IsClass p c → IsClass p d → class_fits p c d ≡ true → IsInstance p (kind.Class c) (name_of p d)
  unfolding class_fits implements
  class_instance c d h g e = elim (or_cases (is_below p c d) (member d (flat_map (λ x. own_interfaces p x) (upwards p c))) e) [
    | inl q ↦ below_instance p lk c d h g q
    | inr q ↦
        let r = any_some (λ x. member d (own_interfaces p x)) (upwards p c) (sym (member-flat_map d (λ x. own_interfaces p x) (upwards p c)) ∙ q) in
        let i = own p lk r.0 d r.2 in
        takes_all p lk d g (or_right (nat_eq d object_class) (is_interface_at p d) i.interface) (kind.Class c)
  ]

  names_fit : (c d : ℕ) → IsClass p c → IsClass p d → class_fits p c d ≡ true → named.class_fits p (name_of p c) (name_of p d) ≡ true
  names_fit c d h g e = sym (plain_fits p lk (name_of p c) (name_of p d) (plain_name p lk c h) (plain_name p lk d g)) ∙ class_instance c d h g e

  bases_fit : (b e : Base) → IsBase p b → IsBase p e → base_fits p b e ≡ true → element_fits p (base_text p b) (base_text p e) ≡ true
  bases_fit (base.Class c) (base.Class d) h g f =
      subst (λ (a : List ℕ). named.class_fits p a (class_name (name_of p d ++ 59 ∷ [])) ≡ true) (sym (class_within (name_of p c)))
      (subst (λ (a : List ℕ). named.class_fits p (name_of p c) a ≡ true) (sym (class_within (name_of p d))) (names_fit c d h g f))
  bases_fit base.Boolean base.Boolean h g f = refl
  bases_fit base.Byte base.Byte h g f = refl
  bases_fit base.Char base.Char h g f = refl
  bases_fit base.Short base.Short h g f = refl
  bases_fit base.Int base.Int h g f = refl
  bases_fit base.Long base.Long h g f = refl
  bases_fit _ _ h g f = absurd (cc)

  -- as many brackets in front
  brackets : (n : ℕ) (a b : List ℕ) → element_fits p a b ≡ true → element_fits p (replicate n 91 ++ a) (replicate n 91 ++ b) ≡ true
  brackets zero a b e = e
  brackets (suc n) a b e = brackets n a b e

  -- an array of more dimensions as an element that takes any reference
  deeper : (n m : ℕ) (a t : List ℕ) → m < n → takes_any p (class_name t) ≡ true → element_fits p (replicate n 91 ++ a) (replicate m 91 ++ (76 ∷ t)) ≡ true
  deeper zero m a t h k = absurd (omega arith)
  deeper (suc n) zero a t h k = k
  deeper (suc n) (suc m) a t h k = deeper n m a t (omega arith) k

  object_element : (n m : ℕ) (b e : Base) → m < n → IsBase p e → is_object e ≡ true → element_fits p (replicate n 91 ++ base_text p b) (replicate m 91 ++ base_text p e) ≡ true
  object_element n m b (base.Class c) h g o = deeper n m (base_text p b) (name_of p c ++ 59 ∷ []) h
      (subst (λ (a : List ℕ). takes_any p a ≡ true) (sym (class_within (name_of p c))) (named_any p lk c g ∙ every c o))
    where
      every : (c : ℕ) → nat_eq c object_class ≡ true → (nat_eq c object_class || is_interface_at p c) ≡ true
      every c q = rw q refl
  object_element n m b _ h g o = absurd (cc)

  -- an object of the first kind is an instance of the second
  pub kind_instance : (x k : Kind) → IsKind p x → IsKind p k → kind_fits p x k ≡ true → IsInstance p x (kind_name p k)
  unfolding kind_fits object_fits
  kind_instance (kind.Class c) (kind.Class d) h g f = class_instance c d h g f
  kind_instance (kind.Class c) (kind.Array n b) h g f = absurd (cc)
  kind_instance (kind.Array n b) (kind.Class d) h g f = takes_all p lk d g (rw f refl) (kind.Array n b)
  kind_instance (kind.Array zero b) (kind.Array m e) h g f = absurd (let z = h.0 in omega arith)
  kind_instance (kind.Array (suc n) b) (kind.Array zero e) h g f = absurd (let z = g.0 in omega arith)
  kind_instance (kind.Array (suc n) b) (kind.Array (suc m) e) h g f = elim (cases_Bool (nat_eq (suc n) (suc m))) [
    | inl q ↦
        let k : n ≡ m = (let z = eqb-true (suc n) (suc m) q in omega arith) in
        let i : base_fits p b e ≡ true = (let z = rw q at f in z) in
        subst (λ (j : ℕ). element_fits p (replicate n 91 ++ base_text p b) (replicate j 91 ++ base_text p e) ≡ true) k (brackets n (base_text p b) (base_text p e) (bases_fit b e h.2 g.2 i))
    | inr q ↦
        let i : (nat_lt (suc m) (suc n) && is_object e) ≡ true = (let z = rw q at f in z) in
        let j = and_parts (nat_lt (suc m) (suc n)) (is_object e) i in
        object_element n m b e (let z = ltb-true (suc m) (suc n) j.0 in omega arith) g.2 j.1
  ]

  bases_itself : (b : Base) → base_fits p b b ≡ true
  unfolding class_fits
  bases_itself (base.Class c) = or_left (is_below p c c) (implements p c c) (below_same p c)
  bases_itself _ = refl

  -- an object of a kind is an instance of it
  pub kind_itself : (k : Kind) → IsKind p k → IsInstance p k (kind_name p k)
  unfolding kind_fits class_fits
  kind_itself (kind.Class c) h = kind_instance (kind.Class c) (kind.Class c) h h (or_left (is_below p c c) (implements p c c) (below_same p c))
  kind_itself (kind.Array n b) h = kind_instance (kind.Array n b) (kind.Array n b) h h (rw (eq-eqb n n refl) (bases_itself b))
