-- The program that is assembled of class files, whatever bodies its methods have: which records stand where.
use Rattle.std.proofs.Common.{◌≡◌, ◌⊎◌, ℕ, zero, suc, ◌+◌, ◌<◌, List, [], ◌∷◌, ◌++◌, length, get_or, slice_get, ◌-◌, refl, sym, ◌∙◌, ap, inl, inr, arith, Some}
use Rattle.std.proofs.lemmas.{Bool.cases_lt, Option.slice_get_within, Option.get_or_from_slice_get, List.length-append, List.take_at, List.get_or-append-add}
use Rattle.class_reader.specs.declared.parts.{ClassParts.ClassParts, MemberPart.MemberPart, CodePart.CodePart}
use Rattle.jvm_model.specs.declared.program.{Program.Program, Body.Body, TestEntry.TestEntry, FieldRec.FieldRec, MethodRec.MethodRec}
use Rattle.jvm_model.specs.{Builtin.builtin_count, Library.builtin_classes, Library.builtin_fields, Library.builtin_methods}
use Rattle.jvm_model.specs.Classes.{no_class, no_field, no_method, class_at, field_at, method_at}
use Rattle.jvm_model.specs.Linked.{IsClass, IsField, IsMethod, HoldsBuiltins}
use Rattle.jvm_model.proofs.BuiltinRules.{lengths}
use Rattle.class_link.specs.{ClassNames.all_names, Literals.literals}
use Rattle.class_link.specs.Assembly.{class_rec, class_recs, field_rec, field_recs, method_rec, method_recs, assembled}
use Rattle.class_link.proofs.Blocks.{at_place, before, GivenMember, member_at, member_cases}

abbrev pub own_fields : ClassParts → List MemberPart
own_fields c = c.fields

abbrev pub own_methods : ClassParts → List MemberPart
own_methods c = c.methods

-- ---- classes

length_recs : (names : List (List ℕ)) (f m : ℕ) (cs : List ClassParts) → length (class_recs names f m cs) ≡ length cs
length_recs names f m [] = refl
length_recs names f m (c ∷ cs) = ap suc (length_recs names (f + length c.fields) (m + length c.methods) cs)

rec_at : (names : List (List ℕ)) (f m : ℕ) (cs : List ClassParts) (i : ℕ) (c : ClassParts) → slice_get cs i ≡ Some c →
    slice_get (class_recs names f m cs) i ≡ Some (class_rec names (f + before own_fields cs i) (m + before own_methods cs i) c)
rec_at names f m [] i c h = absurd (cc)
rec_at names f m (d ∷ cs) zero c h =
    let e : d ≡ c = cc in
    let y : f + 0 ≡ f = omega arith in
    let z : m + 0 ≡ m = omega arith in
    rw (e, y, z) refl
rec_at names f m (d ∷ cs) (suc i) c h =
    let y : f + (length d.fields + before own_fields cs i) ≡ (f + length d.fields) + before own_fields cs i = omega arith in
    let z : m + (length d.methods + before own_methods cs i) ≡ (m + length d.methods) + before own_methods cs i = omega arith in
    rw (y, z) (rec_at names (f + length d.fields) (m + length d.methods) cs i c h)

-- ---- fields and methods

abbrev pub make_field : List (List ℕ) → ClassParts → ℕ → MemberPart → FieldRec
make_field texts c n x = field_rec texts c.pool n x

abbrev pub make_method : (ClassParts → CodePart → Body) → ClassParts → ℕ → MemberPart → MethodRec
make_method body c n x = method_rec (body c) c.pool n x

-- ---- the program

-- the class is that of a class file
pub record Given (cs : List ClassParts) (c : ℕ) : Type 0 where
  pub index : ℕ
  pub parts : ClassParts
  pub number : c ≡ builtin_count + index
  pub there : slice_get cs index ≡ Some parts

module _ (body : ClassParts → CodePart → Body) (cs : List ClassParts) (tests : List TestEntry) (files : List (List ℕ × List ℕ)) where
  abbrev p : Program
  p = assembled body cs tests files

  pub holds_builtins : HoldsBuiltins p
  unfolding assembled
  holds_builtins = record {
    classes = take_at builtin_classes (class_recs (all_names cs) (length builtin_fields) (length builtin_methods) cs) builtin_count lengths.0;
    fields = take_at builtin_fields (field_recs (literals cs) builtin_count cs) (length builtin_fields) refl;
    methods = take_at builtin_methods (method_recs body builtin_count cs) (length builtin_methods) refl;
  }

  pub class_count : length p.classes ≡ builtin_count + length cs
  unfolding assembled
  class_count = let a = length-append builtin_classes (class_recs (all_names cs) (length builtin_fields) (length builtin_methods) cs) in let b = length_recs (all_names cs) (length builtin_fields) (length builtin_methods) cs in let c = lengths.0 in omega arith

  -- the classes of the class files, behind the built-in ones
  pub class_given : (i : ℕ) (c : ClassParts) → slice_get cs i ≡ Some c →
      class_at p (builtin_count + i) ≡ class_rec (all_names cs) (length builtin_fields + before own_fields cs i) (length builtin_methods + before own_methods cs i) c
  unfolding assembled
  class_given i c h =
      let recs = class_recs (all_names cs) (length builtin_fields) (length builtin_methods) cs in
      ap (λ (n : ℕ). get_or (builtin_classes ++ recs) (n + i) no_class) (sym lengths.0) ∙ get_or-append-add builtin_classes recs i no_class
      ∙ get_or_from_slice_get recs i _ no_class (rec_at (all_names cs) (length builtin_fields) (length builtin_methods) cs i c h)

  pub class_cases : (c : ℕ) → IsClass p c → (c < builtin_count) ⊎ Given cs c
  class_cases c h = elim (cases_lt c builtin_count) [
    | inl g ↦ inl g
    | inr g ↦ let n = class_count in let a = at_place cs (c - builtin_count) (omega arith) in inr (record { index = c - builtin_count; parts = a.item; number = omega arith; there = a.there })
  ]

  pub given_class_is : (i : ℕ) (c : ClassParts) → slice_get cs i ≡ Some c → IsClass p (builtin_count + i)
  given_class_is i c h = let n = class_count in let g = slice_get_within cs i c h in omega arith

  -- fields and methods
  abbrev pub GivenField : ℕ → Type 0
  GivenField f = GivenMember (make_field (literals cs)) own_fields (length builtin_fields) cs f (field_at p f)

  abbrev pub GivenMethod : ℕ → Type 0
  GivenMethod m = GivenMember (make_method body) own_methods (length builtin_methods) cs m (method_at p m)

  pub field_cases : (f : ℕ) → IsField p f → (f < 2) ⊎ GivenField f
  unfolding assembled
  field_cases f h = elim (member_cases (make_field (literals cs)) own_fields builtin_fields no_field cs f h) [ inl g ↦ let n = lengths.1 in inl (omega arith) | inr g ↦ inr g ]

  pub method_cases : (m : ℕ) → IsMethod p m → (m < 102) ⊎ GivenMethod m
  unfolding assembled
  method_cases m h = elim (member_cases (make_method body) own_methods builtin_methods no_method cs m h) [ inl g ↦ let n = lengths.2 in inl (omega arith) | inr g ↦ inr g ]

  pub field_given : (i k : ℕ) (c : ClassParts) (x : MemberPart) → slice_get cs i ≡ Some c → slice_get c.fields k ≡ Some x → IsField p ((length builtin_fields + before own_fields cs i) + k)
  unfolding assembled
  field_given i k c x h g = (member_at (make_field (literals cs)) own_fields builtin_fields no_field cs i k c x h g).0

  pub method_given : (i k : ℕ) (c : ClassParts) (x : MemberPart) → slice_get cs i ≡ Some c → slice_get c.methods k ≡ Some x → let m = (length builtin_methods + before own_methods cs i) + k in
      IsMethod p m × (method_at p m ≡ method_rec (body c) c.pool (builtin_count + i) x)
  unfolding assembled
  method_given i k c x h g = member_at (make_method body) own_methods builtin_methods no_method cs i k c x h g
