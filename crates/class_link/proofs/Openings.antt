-- Fields open with values of their types.
use Rattle.std.proofs.Common.{◌≡◌, ℕ, suc, ◌≤◌, ℤ, List, [], ◌∷◌, length, slice_get, true, false, nat_eq, nat_le, nat_lt, refl, sym, ◌∙◌, ap, subst, inl, inr, arith, Option, Some, None, IfSome, codes}
use Rattle.std.proofs.lemmas.Bool.{cases_Bool, or_cases, eqb-true, ne_eqb, lt-ltb, le-leb}
use Rattle.jvm_model.specs.declared.program.{FieldRec.FieldRec, Body.Body, TestEntry.TestEntry, Program.Program}
use Rattle.et_base.specs.Names.{is_base, after_element, after_type, ends, is_field_descriptor}
use Rattle.std.proofs.lemmas.Slice.Eq.{bytes_eq-Decides}
use Rattle.class_pool.specs.{declared.pool.Entry.Entry, declared.pool.Entry.TheVariants.Utf8, declared.pool.Entry.TheVariants.Str, Pool.entry_of}
use Rattle.class_pool.specs.declared.pool.Entry.TheVariants as entry
use Rattle.class_reader.specs.declared.parts.{ClassParts.ClassParts, MemberPart.MemberPart, CodePart.CodePart}
use Rattle.class_reader.specs.Names.{is_text_of, is_small, fits_constant}
use Rattle.class_reader.proofs.MemberFacts.{FieldFacts}
use Rattle.jvm_model.specs.{declared.values.Value.TheVariants.Int, declared.values.Value.TheVariants.Lit, Narrow.narrow, Narrow.narrowed}
use Rattle.jvm_model.specs.{Linked.opens, Linked.HasOpenings, Classes.member, Classes.is_static, Classes.default_of}
use Rattle.jvm_model.proofs.{BuiltinRules.builtin_field, BuiltinRules.builtin_opens, Ranges.all_there}
use Rattle.jvm_model.proofs.NarrowedFits.{member_holds, narrowed_fits, smalls}
use Rattle.class_link.specs.{ClassNames.text_at, Literals.literals, Literals.literal_number}
use Rattle.class_link.specs.Assembly.{constant_opening, static_opening, opening, assembled}
use Rattle.class_link.proofs.{Assembled.holds_builtins, Assembled.field_cases, Tables.instance_opening, Pools.literal_within}
use Rattle.class_link.proofs.Listed.{AllKnown, text_is, text_fits}

-- ---- defaults

abbrev bases : List ℕ
bases = 66 ∷ 67 ∷ 68 ∷ 70 ∷ 73 ∷ 74 ∷ 83 ∷ 90 ∷ []

base_member : (u : ℕ) → is_base u ≡ true → member u bases ≡ true
base_member u h = grind arith

base_opens : (p : Program) (u : ℕ) (us : List ℕ) → is_base u ≡ true → opens p (u ∷ us) (default_of (u ∷ us)) ≡ true
base_opens p u us h = member_holds (λ v. opens p (v ∷ us) (default_of (v ∷ us)) ≡ true) bases u (refl, (refl, (refl, (refl, (refl, (refl, (refl, (refl, tt)))))))) (base_member u h)

element_opens : (p : Program) (u : ℕ) (us : List ℕ) → ends (after_element (u ∷ us)) ≡ true → opens p (u ∷ us) (default_of (u ∷ us)) ≡ true
unfolding after_element
element_opens p u us h = elim (cases_Bool (is_base u)) [
  | inl b ↦ base_opens p u us b
  | inr b ↦ elim (cases_Bool (nat_eq u 76)) [
    | inl e ↦ let q = eqb-true u 76 e in rw q refl
    | inr e ↦ let z : ends (after_element (u ∷ us)) ≡ false = rw (after_element, b, e) refl in absurd (cc)
  ]
]

-- each type's default opens its fields
pub default_opens : (p : Program) (t : List ℕ) → is_field_descriptor t ≡ true → opens p t (default_of t) ≡ true
unfolding is_field_descriptor after_type
default_opens p [] h = absurd (cc)
default_opens p (u ∷ us) h = elim (cases_Bool (nat_eq u 91)) [
  | inl e ↦ let q = eqb-true u 91 e in rw q refl
  | inr e ↦
      let l : nat_lt 0 (suc (length us)) ≡ true = lt-ltb 0 (suc (length us)) (omega arith) in
      let g = rw e at h in
      element_opens p u us (rw l at g)
]

-- ---- constants

texts_are : (units text : List ℕ) → is_text_of text (Some (Utf8 units)) ≡ true → units ≡ text
texts_are units text h = (bytes_eq-Decides units text).0 h

small_units : (u : ℕ) (p : Program) (units : List ℕ) (n : ℤ) → member u smalls ≡ true → units ≡ u ∷ [] → opens p units (narrowed units (Int n)) ≡ true
unfolding narrow
small_units u p units n h e = rw e (narrowed_fits u n h)

small_opens : (p : Program) (units : List ℕ) (n : ℤ) → is_small (Some (Utf8 units)) ≡ true → opens p units (narrowed units (Int n)) ≡ true
small_opens p units n h = elim (or_cases _ (is_text_of (codes "Z") (Some (Utf8 units))) h) [
  | inr e ↦ small_units 90 p units n refl (texts_are units (codes "Z") e)
  | inl h ↦ elim (or_cases _ (is_text_of (codes "B") (Some (Utf8 units))) h) [
    | inr e ↦ small_units 66 p units n refl (texts_are units (codes "B") e)
    | inl h ↦ elim (or_cases _ (is_text_of (codes "C") (Some (Utf8 units))) h) [
      | inr e ↦ small_units 67 p units n refl (texts_are units (codes "C") e)
      | inl h ↦ elim (or_cases _ (is_text_of (codes "S") (Some (Utf8 units))) h) [
        | inr e ↦ small_units 83 p units n refl (texts_are units (codes "S") e)
        | inl e ↦ small_units 73 p units n refl (texts_are units (codes "I") e)
      ]
    ]
  ]
]

string_opens : (p : Program) (units : List ℕ) (n : ℕ) → suc n ≤ length p.literals → units ≡ codes "Ljava/lang/String;" → opens p units (Lit (suc n)) ≡ true
string_opens p units n h e =
    let z : nat_eq (suc n) 0 ≡ false = ne_eqb (suc n) 0 (λ q. omega arith) in
    let l : nat_le (suc n) (length p.literals) ≡ true = le-leb (suc n) (length p.literals) h in
    rw (e, z, l) refl

-- a constant opens a field that it fits
constant_opens : (p : Program) (texts : List (List ℕ)) (slots : List (Option Entry)) (units : List ℕ) (e : Option Entry) → is_field_descriptor units ≡ true →
    ((text : ℕ) → e ≡ Some (Str text) → literal_number texts (text_at slots text) ≤ length p.literals) → fits_constant (Some (Utf8 units)) e ≡ true → opens p units (constant_opening texts slots units e) ≡ true
constant_opens p texts slots units None t l h = absurd (cc)
constant_opens p texts slots units (Some (entry.Integer n)) t l h = small_opens p units n h
constant_opens p texts slots units (Some (entry.Float n)) t l h = default_opens p units t
constant_opens p texts slots units (Some (entry.Long n)) t l h = let e = texts_are units (codes "J") h in rw e refl
constant_opens p texts slots units (Some (entry.Double n)) t l h = default_opens p units t
constant_opens p texts slots units (Some (entry.Str text)) t l h = string_opens p units _ (l text refl) (texts_are units (codes "Ljava/lang/String;") h)
constant_opens p texts slots units (Some e) t l h = absurd (cc)

module _ (body : ClassParts → CodePart → Body) (cs : List ClassParts) (tests : List TestEntry) (files : List (List ℕ × List ℕ)) (known : AllKnown cs) where
  abbrev p : Program
  p = assembled body cs tests files

  literal_is : (i : ℕ) (c : ClassParts) (k text : ℕ) → slice_get cs i ≡ Some c → entry_of c.pool k ≡ Some (Str text) → literal_number (literals cs) (text_at c.pool text) ≤ length p.literals
  unfolding assembled
  literal_is i c k text h e = literal_within cs i c k text h e (text_at c.pool text)

  static_opens : (i : ℕ) (c : ClassParts) → slice_get cs i ≡ Some c → (x : MemberPart) → FieldFacts c.pool x → (o : Option ℕ) → IfSome o (λ k. fits_constant (entry_of c.pool x.descriptor) (entry_of c.pool k) ≡ true) →
      opens p (text_at c.pool x.descriptor) (static_opening (literals cs) c.pool (text_at c.pool x.descriptor) o) ≡ true
  static_opens i c h x f None g = default_opens p (text_at c.pool x.descriptor) (text_fits is_field_descriptor c.pool x.descriptor f.descriptor)
  static_opens i c h x f (Some k) g =
      let t = f.descriptor in
      let e = text_is is_field_descriptor c.pool x.descriptor t in
      let q : fits_constant (Some (Utf8 t.units)) (entry_of c.pool k) ≡ true = subst (λ (d : Option Entry). fits_constant d (entry_of c.pool k) ≡ true) t.entry g in
      subst (λ us. opens p us (constant_opening (literals cs) c.pool us (entry_of c.pool k)) ≡ true) (sym e)
      (constant_opens p (literals cs) c.pool t.units (entry_of c.pool k) t.fits (λ text s. literal_is i c k text h s) q)

  opening_fits : (i : ℕ) (c : ClassParts) → slice_get cs i ≡ Some c → (x : MemberPart) → FieldFacts c.pool x → opens p (text_at c.pool x.descriptor) (opening (literals cs) c.pool x) ≡ true
  unfolding opening
  opening_fits i c h x f = elim (cases_Bool (is_static x.flags)) [
    | inl s ↦ rw s (static_opens i c h x f x.constant f.constant)
    | inr s ↦ rw s (default_opens p (text_at c.pool x.descriptor) (text_fits is_field_descriptor c.pool x.descriptor f.descriptor))
  ]

  pub has_openings : HasOpenings p
  unfolding opening
  has_openings = record {
    values = λ f h. (elim (field_cases body cs tests files f h) [
      | inl g ↦ builtin_opens p (holds_builtins body cs tests files) f g
      | inr g ↦
          let x : FieldFacts g.parts.pool g.member = all_there (FieldFacts g.parts.pool) g.parts.fields g.index g.member (known g.class g.parts g.has_class).fields.each g.has_member in
          subst (λ (y : FieldRec). opens p y.descriptor y.opening ≡ true) (sym g.is) (opening_fits g.class g.parts g.has_class g.member x)
    ]);
    defaults = λ f h s. (elim (field_cases body cs tests files f h) [
      | inl g ↦
          let e = builtin_field p (holds_builtins body cs tests files) f g in
          subst (λ (y : FieldRec). y.opening ≡ default_of y.descriptor) (sym e) (instance_opening f g (ap (λ (y : FieldRec). is_static y.flags) (sym e) ∙ s))
      | inr g ↦
          let e = g.is in
          let n : is_static g.member.flags ≡ false = ap (λ (y : FieldRec). is_static y.flags) (sym e) ∙ s in
          subst (λ (y : FieldRec). y.opening ≡ default_of y.descriptor) (sym e) (rw n refl)
    ]);
  }
