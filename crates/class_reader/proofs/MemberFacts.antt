-- What is known of a class file's fields and methods.
use Rattle.std.proofs.{Math.Bool.or-true, lemmas.List.Elements.All-from_recursion, lemmas.List.Elements.All-weaker, lemmas.Slice.Eq.bytes_eq-Decides}
use Rattle.std.proofs.Common.{◌≡◌, ◌<◌, ◌≤◌, ◌^◌, ◌+◌, ℕ, zero, suc, Bool, true, false, not, cond, ◌&&◌, ◌||◌, List, [], ◌∷◌, ◌++◌, length, take, get_or, Option, Some, None, is_some, refl, sym, ap, subst, ◌∙◌, arith, inl, inr, All}
use Rattle.std.specs.Prelude.{IfSome}
use Rattle.std.specs.List.{AllByRecursion}
use Rattle.std.proofs.lemmas.{Bool.cases_lt, Bool.leb-true, Bool.not-true, List.get_or-take, List.length-take}
use Rattle.class_pool.specs.{declared.pool.Entry.Entry, declared.pool.Entry.TheVariants.Utf8, Pool.entry_of, Pool.is_text, Pool.text_of, Grammar.Sized}
use Rattle.class_pool.specs.PoolGrammar.{IsPool}
use Rattle.class_pool.proofs.GrammarFacts.{Behind, behind_at, counted_behind, counted_length}
use Rattle.class_pool.proofs.EntryFacts.{NamesText, text_from}
use Rattle.et_base.specs.Names.{is_unqualified, is_field_descriptor, is_method_descriptor, argument_units}
use Rattle.et_base.specs.Names as names
use Rattle.class_reader.specs.declared.parts.{MemberPart.MemberPart, CodePart.CodePart}
use Rattle.class_reader.specs.Names.{is_field_name, is_field_type, is_method_name, is_method_type, own_units, has_room, fits_constant, same_text, is_repeated, has_code, fits_flags, is_code, is_constant_value}
use Rattle.class_reader.specs.ClassGrammar.{ConstantText, PartText, field_of, FieldText, FieldsText, method_of, MethodText, MethodsText}
use Rattle.class_reader.proofs.AttributeFacts.{attributes_keep, index_facts, form_facts}
use Rattle.class_reader.proofs.PartFacts.{PartFacts, part_facts}

-- ---- the facts

-- a field
pub record FieldFacts (slots : List (Option Entry)) (m : MemberPart) : Type 0 where
  pub flags : m.flags < 2 ^ 16
  pub name : NamesText is_unqualified slots m.name
  pub descriptor : NamesText is_field_descriptor slots m.descriptor
  pub constant : IfSome m.constant (λ k. fits_constant (entry_of slots m.descriptor) (entry_of slots k) ≡ true)
  pub no_code : m.code ≡ None

-- the argument units of the method descriptor, with this, are at most 255
pub record HasRoom (flags : ℕ) (descriptor : List ℕ) : Type 0 where
  pub units : ℕ
  pub counted : argument_units descriptor ≡ Some units
  pub few : own_units flags + units ≤ 255

-- a method
pub record MethodFacts (slots : List (Option Entry)) (m : MemberPart) : Type 0 where
  pub flags : m.flags < 2 ^ 16
  pub name : NamesText names.is_method_name slots m.name
  pub descriptor : NamesText is_method_descriptor slots m.descriptor
  pub room : HasRoom m.flags descriptor.units
  pub no_constant : m.constant ≡ None
  pub coded : is_some m.code ≡ has_code m.flags
  pub code : IfSome m.code (PartFacts slots)

-- members in different places differ in their names or their descriptors
abbrev pub Differ : List (Option Entry) → List MemberPart → Type 0
Differ slots ms = (i j : ℕ) (d : MemberPart) → i < length ms → j < length ms
    → text_of (entry_of slots (get_or ms i d).name) ≡ text_of (entry_of slots (get_or ms j d).name)
    → text_of (entry_of slots (get_or ms i d).descriptor) ≡ text_of (entry_of slots (get_or ms j d).descriptor) → i ≡ j

-- ---- a field

constant_facts : (slots : List (Option Entry)) (descriptor : ℕ) (text : List ℕ) (k : ℕ) → ConstantText slots descriptor text k → fits_constant (entry_of slots descriptor) (entry_of slots k) ≡ true
constant_facts slots descriptor text k (n, one, more, e, len, (two, index)) = (index_facts (fits_constant (entry_of slots descriptor)) slots more k index).1

field_made : (slots : List (Option Entry)) (flags name descriptor : ℕ) (constant : Option ℕ) → flags < 2 ^ 16 → is_field_name (entry_of slots name) ≡ true → is_field_type (entry_of slots descriptor) ≡ true
    → IfSome constant (λ k. fits_constant (entry_of slots descriptor) (entry_of slots k) ≡ true) → FieldFacts slots (field_of flags name descriptor constant)
field_made slots flags name descriptor constant small p q r = record { flags = small; name = text_from is_unqualified slots name p; descriptor = text_from is_field_descriptor slots descriptor q; constant = r; no_code = refl }

abbrev pub FieldSo : List (Option Entry) → List MemberPart → MemberPart → Type 0
FieldSo slots before m = FieldFacts slots m × (is_repeated slots before m.name m.descriptor ≡ false)

field_so : (slots : List (Option Entry)) (before : List MemberPart) (n : ℕ) (text : List ℕ) (m : MemberPart) → FieldText slots before text m → FieldSo slots before m
field_so slots before n text m (flags, t1, m1, e1, short, (name, t2, m2, e2, named, (descriptor, t3, m3, e3, typed, (new, (constant, attributes, is))))) =
    let kept = attributes_keep is_constant_value (ConstantText slots descriptor) slots (λ k. fits_constant (entry_of slots descriptor) (entry_of slots k) ≡ true) (constant_facts slots descriptor) m3 constant attributes in
    subst (FieldSo slots before) (sym is) (field_made slots flags name descriptor constant short.1 (form_facts is_field_name slots t2 name named) (form_facts is_field_type slots t3 descriptor typed) kept, not-true (is_repeated slots before name descriptor) new)

-- ---- a method

room_at : (own : ℕ) (units : Option ℕ) → has_room own units ≡ true → (n : ℕ) × (units ≡ Some n) × (own + n ≤ 255)
room_at own None h = absurd cc
room_at own (Some n) h = (n, refl, leb-true _ _ h)

typed_facts : (flags : ℕ) (slots : List (Option Entry)) (i : ℕ) → is_method_type flags (entry_of slots i) ≡ true → (t : NamesText is_method_descriptor slots i) × HasRoom flags t.units
typed_facts flags slots i h =
    let t = text_from (λ us. has_room (own_units flags) (argument_units us)) slots i h in
    let r = room_at (own_units flags) (argument_units t.units) t.fits in
    (record { units = t.units; entry = t.entry; fits = ap is_some r.1 }, record { units = r.0; counted = r.1; few = r.2 })

flags_fit : (wanted there : Bool) → cond wanted there (not there) ≡ true → there ≡ wanted
flags_fit true there h = h
flags_fit false there h = not-true there h

method_made : (slots : List (Option Entry)) (flags name descriptor : ℕ) (code : Option CodePart) → flags < 2 ^ 16 → is_method_name (entry_of slots name) ≡ true → is_method_type flags (entry_of slots descriptor) ≡ true
    → fits_flags flags (is_some code) ≡ true → IfSome code (PartFacts slots) → MethodFacts slots (method_of flags name descriptor code)
method_made slots flags name descriptor code small p q fits h =
    let t = typed_facts flags slots descriptor q in
    record { flags = small; name = text_from names.is_method_name slots name p; descriptor = t.0; room = t.1; no_constant = refl; coded = flags_fit (has_code flags) (is_some code) fits; code = h }

abbrev pub MethodSo : List (Option Entry) → List MemberPart → MemberPart → Type 0
MethodSo slots before m = MethodFacts slots m × (is_repeated slots before m.name m.descriptor ≡ false)

method_so : (slots : List (Option Entry)) → IsPool slots
    → (before : List MemberPart) (n : ℕ) (text : List ℕ) (m : MemberPart) → MethodText slots before text m → MethodSo slots before m
method_so slots pool before n text m (flags, t1, m1, e1, short, (name, t2, m2, e2, named, (descriptor, t3, m3, e3, typed, (new, (code, t4, m4, e4, attributes, (fits, (nil, is))))))) =
    let kept = attributes_keep is_code (Sized (PartText slots)) slots (PartFacts slots) (part_facts slots pool) t4 code attributes in
    subst (MethodSo slots before) (sym is) (method_made slots flags name descriptor code short.1 (form_facts is_method_name slots t2 name named) (form_facts (is_method_type flags) slots t3 descriptor typed) fits kept, not-true (is_repeated slots before name descriptor) new)

-- ---- members differ

repeated_at : (slots : List (Option Entry)) (before : List MemberPart) (i : ℕ) (d : MemberPart) (name descriptor : ℕ) → i < length before
    → same_text (entry_of slots (get_or before i d).name) (entry_of slots name) ≡ true → same_text (entry_of slots (get_or before i d).descriptor) (entry_of slots descriptor) ≡ true → is_repeated slots before name descriptor ≡ true
repeated_at slots [] i d name descriptor lt p q = absurd (omega arith)
repeated_at slots (m ∷ ms) zero d name descriptor lt p q = rw (p, q) refl
repeated_at slots (m ∷ ms) (suc i) d name descriptor lt p q =
    ap (λ b. same_text (entry_of slots m.name) (entry_of slots name) && same_text (entry_of slots m.descriptor) (entry_of slots descriptor) || b) (repeated_at slots ms i d name descriptor (omega arith) p q)
    ∙ or-true (same_text (entry_of slots m.name) (entry_of slots name) && same_text (entry_of slots m.descriptor) (entry_of slots descriptor))

some_same : (a b : List ℕ) → text_of (Some (Utf8 a)) ≡ text_of (Some (Utf8 b)) → a ≡ b
some_same a b e = cc

same_from : (e f : Option Entry) → is_text e ≡ true → text_of e ≡ text_of f → same_text e f ≡ true
same_from None f h is = absurd cc
same_from (Some (Utf8 a)) None h is = absurd cc
same_from (Some (Utf8 a)) (Some (Utf8 b)) h is = (bytes_eq-Decides a b).1 (some_same a b is)
same_from (Some (Utf8 a)) (Some f) h is = absurd cc
same_from (Some e) f h is = absurd cc

abbrev pub IsNew : List (Option Entry) → List MemberPart → MemberPart → Type 0
IsNew slots before m = is_repeated slots before m.name m.descriptor ≡ false

abbrev pub HasTexts : List (Option Entry) → MemberPart → Type 0
HasTexts slots m = (is_text (entry_of slots m.name) ≡ true) × (is_text (entry_of slots m.descriptor) ≡ true)

apart : (slots : List (Option Entry)) (ms : List MemberPart) → All (HasTexts slots) ms → Behind (IsNew slots) [] ms → (i j : ℕ) (d : MemberPart) → i < j → j < length ms
    → text_of (entry_of slots (get_or ms i d).name) ≡ text_of (entry_of slots (get_or ms j d).name) → text_of (entry_of slots (get_or ms i d).descriptor) ≡ text_of (entry_of slots (get_or ms j d).descriptor) → ⊥
apart slots ms texts new i j d lt inside p q =
    let m : MemberPart = get_or ms j d in
    let same : get_or (take j ms) i d ≡ get_or ms i d = get_or-take j ms i d lt in
    let t = texts i d (omega (arith, lt, inside)) in
    let no : is_repeated slots (take j ms) m.name m.descriptor ≡ false = behind_at (IsNew slots) [] ms j d inside new in
    let names : same_text (entry_of slots (get_or (take j ms) i d).name) (entry_of slots m.name) ≡ true = ap (λ (x : MemberPart). same_text (entry_of slots x.name) (entry_of slots m.name)) same ∙ same_from _ _ t.0 p in
    let types : same_text (entry_of slots (get_or (take j ms) i d).descriptor) (entry_of slots m.descriptor) ≡ true = ap (λ (x : MemberPart). same_text (entry_of slots x.descriptor) (entry_of slots m.descriptor)) same ∙ same_from _ _ t.1 q in
    let yes : is_repeated slots (take j ms) m.name m.descriptor ≡ true = repeated_at slots (take j ms) i d m.name m.descriptor (omega (arith, lt, inside, length-take j ms)) names types in
    cc

pub differ : (slots : List (Option Entry)) (ms : List MemberPart) → All (HasTexts slots) ms → Behind (IsNew slots) [] ms → Differ slots ms
differ slots ms texts new i j d p q names types = elim (cases_lt i j) [
  | inl lt ↦ absurd (apart slots ms texts new i j d lt q names types)
  | inr le ↦ elim (cases_lt j i) [
    | inl lt ↦ absurd (apart slots ms texts new j i d lt p (sym names) (sym types))
    | inr ge ↦ omega (arith, le, ge)
  ]
]

-- ---- all of them

behind_split : (P : MemberPart → Type 0) (slots : List (Option Entry)) (before ms : List MemberPart) → Behind (λ b m. P m × IsNew slots b m) before ms → AllByRecursion P ms × Behind (IsNew slots) before ms
behind_split P slots before [] h = (tt, tt)
behind_split P slots before (m ∷ ms) h = let r = behind_split P slots (before ++ m ∷ []) ms h.1 in ((h.0.0, r.0), (h.0.1, r.1))

-- members that are so, few and different
pub record MembersFacts (P : MemberPart → Type 0) (slots : List (Option Entry)) (ms : List MemberPart) : Type 0 where
  pub each : All P ms
  pub differ : Differ slots ms
  pub few : length ms < 2 ^ 16

members_facts : (P : MemberPart → Type 0) (slots : List (Option Entry)) (ms : List MemberPart) → ((m : MemberPart) → P m → HasTexts slots m) → length ms < 2 ^ 16 → Behind (λ b m. P m × IsNew slots b m) [] ms → MembersFacts P slots ms
members_facts P slots ms texts few h =
    let s = behind_split P slots [] ms h in
    let each : All P ms = All-from_recursion P ms s.0 in
    record { each = each; differ = differ slots ms (All-weaker P (HasTexts slots) texts ms each) s.1; few = few }

pub fields_facts : (slots : List (Option Entry)) (text : List ℕ) (ms : List MemberPart) → FieldsText slots text ms → MembersFacts (FieldFacts slots) slots ms
fields_facts slots text ms (n, one, more, e, short, counted) =
    members_facts (FieldFacts slots) slots ms (λ m h. (ap is_text h.name.entry, ap is_text h.descriptor.entry)) (subst (λ k. k < 2 ^ 16) (sym (counted_length (λ before _. FieldText slots before) n more ms counted)) short.1)
    (counted_behind (λ before _. FieldText slots before) (FieldSo slots) (field_so slots) n more ms counted)

pub methods_facts : (slots : List (Option Entry)) → IsPool slots → (text : List ℕ) (ms : List MemberPart) → MethodsText slots text ms → MembersFacts (MethodFacts slots) slots ms
methods_facts slots pool text ms (n, one, more, e, short, counted) =
    members_facts (MethodFacts slots) slots ms (λ m h. (ap is_text h.name.entry, ap is_text h.descriptor.entry)) (subst (λ k. k < 2 ^ 16) (sym (counted_length (λ before _. MethodText slots before) n more ms counted)) short.1)
    (counted_behind (λ before _. MethodText slots before) (MethodSo slots) (method_so slots pool) n more ms counted)
