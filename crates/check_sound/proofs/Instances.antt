-- What an instance of a class is, by name and by number.
use Rattle.std.proofs.Common.{◌≡◌, ℕ, zero, suc, ◌<◌, List, [], ◌∷◌, length, drop, Bool, true, false, not, ◌&&◌, ◌||◌, nat_eq, Option, Some, None, refl, sym, ◌∙◌, ap, subst, arith, inl, inr}
use Rattle.std.specs.Str.{bytes_eq}
use Rattle.std.proofs.lemmas.{Bool.cases_lt, Bool.or_cases, Bool.or_left, Bool.or_right, Bool.eqb-true, List.get_or_past}
use Rattle.jvm_model.specs.declared.{values.Kind.Kind, values.Base.Base, program.Program.Program, program.ClassRec.ClassRec}
use Rattle.jvm_model.specs.declared.values.Kind.TheVariants as kind
use Rattle.jvm_model.specs.{Builtin.object_class, Linked.Linked, Linked.IsClass, Linked.IsKind, Linked.is_interface_at}
use Rattle.jvm_model.specs.Classes.{class_at, is_below, is_interface, member, no_class, upwards}
use Rattle.jvm_model.proofs.Upwards.{below_same, upwards_root, upwards_step}
use Rattle.et_base.specs.Names.{is_class_name, is_class_entry_name, starts_array, is_field_descriptor}
use Rattle.type_frames.specs.{declared.vtype.VType.TheVariants.Object, Descriptors.name_of, Descriptors.kind_name, TypedState.IsInstance, StackEffect.is_that}
use Rattle.type_frames.specs.Assign.{class_named, takes_any, extends, class_fits, element_fits, is_array, object_fits}
use Rattle.et_base.proofs.Texts.{units_true}
use Rattle.type_frames.proofs.AssignLaws.{class_name_plain, first_named, interface_takes, assignable_itself}

-- Object and the interfaces, which take every reference
abbrev pub takes_every : Program → ℕ → Bool
takes_every p c = nat_eq c object_class || is_interface_at p c

-- a class below c
pub record Below (p : Program) (k : Kind) (c : ℕ) : Type 0 where
  pub class : ℕ
  pub is : k ≡ kind.Class class
  pub below : is_below p class c ≡ true

step_below : (p : Program) (lk : Linked p) (c d e : ℕ) → IsClass p c → (class_at p c).superclass ≡ Some d → is_below p d e ≡ true → is_below p c e ≡ true
unfolding is_below
step_below p lk c d e h s b = subst (λ (xs : List ℕ). member e xs ≡ true) (sym (upwards_step p lk c d h s)) (or_right (nat_eq e c) (member e (upwards p d)) b)

module _ (p : Program) (lk : Linked p) where
  pub plain_name : (c : ℕ) → IsClass p c → is_array (name_of p c) ≡ false
  plain_name c h = class_name_plain (name_of p c) (lk.listed.class_names c h)

  pub takes_all : (c : ℕ) → IsClass p c → takes_every p c ≡ true → (k : Kind) → IsInstance p k (name_of p c)
  takes_all c h t k = interface_takes p lk c h (elim (or_cases (nat_eq c object_class) (is_interface_at p c) t) [ inl q ↦ inl (eqb-true c object_class q) | inr q ↦ inr q ]) (Object (kind_name p k)) tt

  pub instance_itself : (c : ℕ) → IsClass p c → IsInstance p (kind.Class c) (name_of p c)
  unfolding is_class_entry_name
  instance_itself c h = assignable_itself p (Object (name_of p c)) (or_left (is_class_name (name_of p c)) (starts_array (name_of p c) && is_field_descriptor (name_of p c)) (lk.listed.class_names c h))

  pub named_any : (c : ℕ) → IsClass p c → takes_any p (name_of p c) ≡ takes_every p c
  unfolding takes_any
  named_any c h = ap (λ (o : Option ℕ). elim o as (λ x. Bool) [ None ↦ false | Some d ↦ nat_eq d object_class || is_interface (class_at p d).flags ]) (first_named p lk c h)

  named_below : (c d : ℕ) → IsClass p c → IsClass p d → extends p (name_of p c) (name_of p d) ≡ is_below p c d
  unfolding extends
  named_below c d h g =
      ap (λ (o : Option ℕ). elim o as (λ x. Bool) [ None ↦ false | Some a ↦ elim (class_named p (name_of p d)) as (λ x. Bool) [ None ↦ false | Some b ↦ is_below p a b ] ]) (first_named p lk c h)
      ∙ ap (λ (o : Option ℕ). elim o as (λ x. Bool) [ None ↦ false | Some b ↦ is_below p c b ]) (first_named p lk d g)

  pub plain_fits : (a b : List ℕ) → is_array a ≡ false → is_array b ≡ false → object_fits p a b ≡ class_fits p a b
  unfolding object_fits
  plain_fits a b e f =
      ap (λ (x : Bool). elim x as (λ z. Bool) [ true ↦ elim (is_array b) as (λ z. Bool) [ true ↦ element_fits p (drop 1 a) (drop 1 b) | false ↦ takes_any p b ] | false ↦ not (is_array b) && class_fits p a b ]) e
      ∙ ap (λ (x : Bool). not x && class_fits p a b) f

  pub array_fits : (a b : List ℕ) → is_array a ≡ true → is_array b ≡ false → object_fits p a b ≡ takes_any p b
  unfolding object_fits
  array_fits a b e f =
      ap (λ (x : Bool). elim x as (λ z. Bool) [ true ↦ elim (is_array b) as (λ z. Bool) [ true ↦ element_fits p (drop 1 a) (drop 1 b) | false ↦ takes_any p b ] | false ↦ not (is_array b) && class_fits p a b ]) e
      ∙ ap (λ (x : Bool). elim x as (λ z. Bool) [ true ↦ element_fits p (drop 1 a) (drop 1 b) | false ↦ takes_any p b ]) f

  -- an instance of a class below c is one of c
  pub below_instance : (c d : ℕ) → IsClass p c → IsClass p d → is_below p c d ≡ true → IsInstance p (kind.Class c) (name_of p d)
  unfolding class_fits
  below_instance c d h g b = plain_fits (name_of p c) (name_of p d) (plain_name c h) (plain_name d g)
      ∙ or_right (bytes_eq (name_of p c) (name_of p d)) (takes_any p (name_of p d) || extends p (name_of p c) (name_of p d)) (or_right (takes_any p (name_of p d)) (extends p (name_of p c) (name_of p d)) (named_below c d h g ∙ b))

  -- a number that names no class is below itself alone
  pub below_class : (c d : ℕ) → IsClass p d → is_below p c d ≡ true → IsClass p c
  unfolding is_below
  below_class c d g b = elim (cases_lt c (length p.classes)) [
    | inl l ↦ l
    | inr n ↦ absurd (
        let q : member d (c ∷ []) ≡ true = sym (ap (member d) (upwards_root p lk c (ap (λ (x : ClassRec). x.superclass) (get_or_past p.classes c no_class n)))) ∙ b in
        elim (or_cases (nat_eq d c) false q) as (λ x. ⊥) [ inl e ↦ (let z = eqb-true d c e in let h : d < length p.classes = g in omega arith) | inr e ↦ absurd (cc) ])
  ]

  -- the superclass is above its class
  pub super_below : (c d : ℕ) → IsClass p c → is_that d (class_at p c).superclass ≡ true → is_below p c d ≡ true
  super_below c d h z = by (class_at p c).superclass refl z
    where
      by : (o : Option ℕ) → (class_at p c).superclass ≡ o → is_that d o ≡ true → is_below p c d ≡ true
      by None q z = absurd (cc)
      by (Some x) q z = step_below p lk c x d h q (subst (λ (y : ℕ). is_below p y d ≡ true) (eqb-true d x z) (below_same p d))

  pub below_is : (c d : ℕ) → IsClass p d → is_below p c d ≡ true → IsInstance p (kind.Class c) (name_of p d)
  below_is c d g b = below_instance c d (below_class c d g b) g b

  of_class : (c d : ℕ) → IsClass p c → IsClass p d → takes_every p d ≡ false → class_fits p (name_of p c) (name_of p d) ≡ true → is_below p c d ≡ true
  unfolding class_fits
  of_class c d h g n e = elim (or_cases (bytes_eq (name_of p c) (name_of p d)) (takes_any p (name_of p d) || extends p (name_of p c) (name_of p d)) e) [
    | inl q ↦ subst (λ (x : ℕ). is_below p c x ≡ true) (lk.distinct.classes c d h g (units_true (name_of p c) (name_of p d) q)) (below_same p c)
    | inr q ↦ elim (or_cases (takes_any p (name_of p d)) (extends p (name_of p c) (name_of p d)) q) [
      | inl t ↦ absurd (let z : true ≡ false = sym t ∙ (named_any d g ∙ n) in cc)
      | inr t ↦ sym (named_below c d h g) ∙ t
    ]
  ]

  array_name : (n : ℕ) (b : Base) → 0 < n → is_array (kind_name p (kind.Array n b)) ≡ true
  array_name zero b h = absurd (omega arith)
  array_name (suc n) b h = refl

  -- an instance of a class that doesn't take every reference is of a class at or below it
  pub instance_below : (k : Kind) (c : ℕ) → IsKind p k → IsClass p c → takes_every p c ≡ false → IsInstance p k (name_of p c) → Below p k c
  instance_below (kind.Class d) c i h n e = record { class = d; is = refl; below = of_class d c i h n (sym (plain_fits (name_of p d) (name_of p c) (plain_name d i) (plain_name c h)) ∙ e) }
  instance_below (kind.Array m b) c i h n e = absurd (
      let q : true ≡ false = sym e ∙ (array_fits (kind_name p (kind.Array m b)) (name_of p c) (array_name m b i.0) (plain_name c h) ∙ (named_any c h ∙ n)) in cc)
