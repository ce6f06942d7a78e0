-- Where supertypes have no fault, superclasses and superinterfaces are of their kinds.
use Rattle.std.proofs.Common.{◌≡◌, ◌⊎◌, ℕ, ◌+◌, ◌-◌, ◌<◌, ◌≤◌, List, length, map, get_or, slice_get, Bool, true, false, not, ◌||◌, nat_eq, nat_le, refl, sym, ◌∙◌, ap, subst, inl, inr, arith, Option, Some, None, IfSome, All}
use Rattle.std.proofs.lemmas.Bool.{and_parts, or_cases, or_left, or_right, not-true, eqb-true, eq-eqb, leb-true, cond-true}
use Rattle.std.proofs.lemmas.List.{Elements.All-map, Folds.list_any_at, FromFn.length-range_with_len, FromFn.get_or-range_with_len}
use Rattle.std.proofs.lemmas.Option.{slice_get_within, slice_get-get_or}
use Rattle.et_base.proofs.Cases.{implied}
use Rattle.class_pool.specs.{declared.pool.Entry.Entry, declared.pool.Entry.TheVariants.Class, Pool.entry_of}
use Rattle.class_reader.specs.declared.parts.{ClassParts.ClassParts, CodePart.CodePart}
use Rattle.class_reader.proofs.ClassFacts.{ClassFacts}
use Rattle.jvm_model.specs.declared.program.{Program.Program, ClassRec.ClassRec, Body.Body, TestEntry.TestEntry}
use Rattle.jvm_model.specs.Builtin.{builtin_count, object_class, throwable_class}
use Rattle.jvm_model.specs.Classes.{class_at, is_interface, is_below, member}
use Rattle.jvm_model.specs.Linked.{IsGiven, is_interface_at, IsClassKind}
use Rattle.class_link.specs.{declared.fault.LinkFault.LinkFault, ClassNames.name_at, ClassNames.number_or_first, ClassNames.missing}
use Rattle.class_link.specs.{Assembly.assembled, Assembly.skeleton, References.LinkEnvironment, Link.setting}
use Rattle.class_link.specs.Faults.{first_some, indices, superclass_fits, supertype_fits, missing_or, wrong_unless, supertype_fault, supertypes_fault}
use Rattle.class_link.proofs.{Assembled.class_given, Assembled.class_cases, Pools.standing, Pools.first_none}
use Rattle.class_link.proofs.{SkeletonFacts.class_same, SkeletonFacts.below_same, Listed.AllKnown}

-- ---- faults that aren't there

-- an entry's index is among those of its pool
pub index_listed : (c : ClassParts) (i : ℕ) (e : Entry) → entry_of c.pool i ≡ Some e → slice_get (indices c) (i - 1) ≡ Some i
index_listed c i e h =
    let s = standing c.pool i e h in
    let w = slice_get_within c.pool s.place (Some e) s.there in
    let k = s.index in
    let l = length-range_with_len 1 (length c.pool) in
    let g : get_or (indices c) (i - 1) 0 ≡ i = (let z : 1 + (i - 1) ≡ i = omega arith in get_or-range_with_len 1 (length c.pool) (i - 1) 0 (omega arith) ∙ z) in
    slice_get-get_or (indices c) (i - 1) 0 (omega arith) ∙ ap (λ (n : ℕ). Some n) g

pub not_missing : (c : ClassParts) (o : Option (List ℕ)) (f : Option LinkFault) → missing_or c o f ≡ None → (o ≡ None) × (f ≡ None)
not_missing c None f h = (refl, h)
not_missing c (Some name) f h = absurd (cc)

pub not_wrong : (b : Bool) (c : ClassParts) (i : ℕ) → wrong_unless b c i ≡ None → b ≡ true
not_wrong true c i h = refl
not_wrong false c i h = absurd (cc)

-- an entry that heads a class without fault fits
supertype_right : (s : LinkEnvironment) (c : ClassParts) (i : ℕ) (e : Entry) → supertypes_fault s c ≡ None → entry_of c.pool i ≡ Some e → (nat_eq i c.super_class || member i c.interfaces) ≡ true → supertype_fits s c i ≡ true
unfolding supertypes_fault supertype_fault
supertype_right s c i e h g t =
    let a : supertype_fault s c i ≡ None = first_none (supertype_fault s c) (indices c) (i - 1) i h (index_listed c i e g) in
    let b = sym (cond-true (nat_eq i c.super_class || member i c.interfaces) (missing_or c (missing s.names (name_at c.pool i)) (wrong_unless (supertype_fits s c i) c i)) None t) ∙ a in
    not_wrong (supertype_fits s c i) c i (not_missing c (missing s.names (name_at c.pool i)) (wrong_unless (supertype_fits s c i) c i) b).1

-- the number of the class that an entry names
abbrev number : LinkEnvironment → ClassParts → ℕ → ℕ
number s c i = number_or_first s.names (name_at c.pool i)

super_fits : (s : LinkEnvironment) (c : ClassParts) → ClassFacts c → supertypes_fault s c ≡ None → superclass_fits s.program c (number s c c.super_class) ≡ true
super_fits s c f h =
    let k = f.super_class.class in
    let t = supertype_right s c c.super_class (Class k.name) h k.entry (or_left (nat_eq c.super_class c.super_class) (member c.super_class c.interfaces) (eq-eqb c.super_class c.super_class refl)) in
    implied (nat_eq c.super_class c.super_class) (superclass_fits s.program c (number s c c.super_class)) (and_parts _ _ (and_parts _ _ t).1).0 (eq-eqb c.super_class c.super_class refl)

interface_fits : (s : LinkEnvironment) (c : ClassParts) → ClassFacts c → supertypes_fault s c ≡ None → (k d : ℕ) → k < length c.interfaces → is_interface_at s.program (number s c (get_or c.interfaces k d)) ≡ true
interface_fits s c f h k d w =
    let i = get_or c.interfaces k d in
    let n = (f.interfaces k d w).class in
    let m : member i c.interfaces ≡ true = list_any_at (nat_eq i) c.interfaces k d w (eq-eqb i i refl) in
    let t = supertype_right s c i (Class n.name) h n.entry (or_right (nat_eq i c.super_class) (member i c.interfaces) m) in
    implied (member i c.interfaces) (is_interface_at s.program (number s c i)) (and_parts _ _ (and_parts _ _ t).1).1 m

module _ (body : ClassParts → CodePart → Body) (cs : List ClassParts) (tests : List TestEntry) (files : List (List ℕ × List ℕ)) (known : AllKnown cs)
    (headed : first_some (supertypes_fault (setting cs)) cs ≡ None) where
  abbrev p : Program
  p = assembled body cs tests files

  interface_same : (d : ℕ) → is_interface_at p d ≡ is_interface_at (skeleton cs) d
  interface_same d = ap (λ (r : ClassRec). is_interface r.flags) (class_same body cs tests files d)

  -- a superclass is opened
  opened_by : (d : ℕ) → (nat_le builtin_count d || (nat_eq d object_class || is_below (skeleton cs) d throwable_class)) ≡ true → (builtin_count ≤ d) ⊎ ((d ≡ object_class) ⊎ (is_below p d throwable_class ≡ true))
  opened_by d h = elim (or_cases (nat_le builtin_count d) _ h) [
    | inl e ↦ inl (leb-true builtin_count d e)
    | inr e ↦ inr (elim (or_cases (nat_eq d object_class) _ e) [
      | inl z ↦ inl (eqb-true d object_class z)
      | inr z ↦ inr (below_same body cs tests files d throwable_class ∙ z)
    ])
  ]

  kind_given : (i : ℕ) (c : ClassParts) → slice_get cs i ≡ Some c → IsClassKind p (builtin_count + i)
  kind_given i c h =
      let s = setting cs in
      let r = class_given body cs tests files i c h in
      let none : supertypes_fault s c ≡ None = first_none (supertypes_fault s) cs i c headed h in
      let d = number s c c.super_class in
      let t : superclass_fits s.program c d ≡ true = super_fits s c (known i c h) none in
      let a = and_parts (not (is_interface_at s.program d)) _ t in
      let b = and_parts (nat_le builtin_count d || (nat_eq d object_class || is_below s.program d throwable_class)) (not (is_interface c.flags) || nat_eq d object_class) a.1 in
      let super : (class_at p (builtin_count + i)).superclass ≡ Some d = ap (λ (y : ClassRec). y.superclass) r in
      let plain : is_interface_at p d ≡ false = interface_same d ∙ not-true (is_interface_at s.program d) a.0 in
      let above : All (λ n. is_interface_at p n ≡ true) (map (λ k. number s c k) c.interfaces) =
      All-map (λ n. is_interface_at p n ≡ true) (λ k. number s c k) c.interfaces (λ k z w. interface_same _ ∙ interface_fits s c (known i c h) none k z w) in
      record {
        superclass = subst (λ o. IfSome o (λ n. is_interface_at p n ≡ false)) (sym super) plain;
        opened = subst (λ o. IfSome o (λ n. (builtin_count ≤ n) ⊎ ((n ≡ object_class) ⊎ (is_below p n throwable_class ≡ true)))) (sym super) (opened_by d b.0);
        interface = λ e. (
            let z : is_interface c.flags ≡ true = ap (λ (y : ClassRec). is_interface y.flags) (sym r) ∙ e in
            let o : d ≡ object_class = eqb-true d object_class (implied (is_interface c.flags) (nat_eq d object_class) b.1 z) in
            super ∙ ap (λ (n : ℕ). Some n) o);
        interfaces = subst (λ (y : ClassRec). All (λ n. is_interface_at p n ≡ true) y.interfaces) (sym r) above;
      }

  pub class_kinds : (c : ℕ) → IsGiven p c → IsClassKind p c
  class_kinds c h = elim (class_cases body cs tests files c h.1) [
    | inl g ↦ let l = h.0 in absurd (omega arith)
    | inr g ↦ subst (λ n. IsClassKind p n) (sym g.number) (kind_given g.index g.parts g.there)
  ]
