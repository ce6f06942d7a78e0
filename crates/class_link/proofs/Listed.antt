-- Members are listed once, by their own classes, and names are in their forms.
use Rattle.std.proofs.Common.{◌≡◌, ℕ, zero, suc, ◌+◌, ◌*◌, ◌/◌, ◌%◌, ◌<◌, ◌≤◌, List, [], length, get_or, slice_get, Bool, true, false, cond, nat_eq, nat_lt, nat_le, refl, sym, ◌∙◌, ap, subst, inl, inr, arith, Option, Some, None, IfSome, All}
use Rattle.std.specs.Prelude.{is_some, is_none, option_map, unwrap_or, bit_and, ◌&&◌, ◌||◌, ◌==◌, if◌then◌else◌}
use Rattle.std.specs.{List.range_with_len, Str.bytes_eq}
use Rattle.std.proofs.lemmas.Bool.{and_parts, cases_order, or_cases, ltb-true, le-leb, eqb-true, eqb-false, ne_eqb, eq-eqb}
use Rattle.std.proofs.lemmas.{List.get_or_append_left, Option.slice_get_within, Nat.Bits.and_pow}
use Rattle.class_pool.specs.declared.pool.Entry.{Entry}
use Rattle.class_pool.proofs.EntryFacts.{NamesText, units_are}
use Rattle.class_reader.specs.{declared.parts.ClassParts.ClassParts, declared.parts.CodePart.CodePart, declared.parts.MemberPart.MemberPart, Names.own_units}
use Rattle.class_reader.proofs.{ClassFacts.ClassFacts, ClassFacts.own_name_is, MemberFacts.FieldFacts, MemberFacts.MethodFacts, MemberFacts.HasRoom}
use Rattle.et_base.specs.Names.{is_class_name, is_unqualified, is_method_name, is_field_descriptor, is_method_descriptor, argument_units}
use Rattle.jvm_model.specs.declared.program.{Program.Program, ClassRec.ClassRec, FieldRec.FieldRec, MethodRec.MethodRec, Body.Body, TestEntry.TestEntry}
use Rattle.jvm_model.specs.{Builtin.builtin_count, Builtin.object_class, Driver.no_arguments}
use Rattle.jvm_model.specs.Library.{builtin_classes, builtin_fields, builtin_methods}
use Rattle.jvm_model.specs.Classes.{class_at, field_at, method_at, no_class, no_field, no_method, is_static, clinit_name}
use Rattle.jvm_model.specs.Linked.{IsClass, IsField, IsMethod, count, has_room, IsInitialiser, IsListed}
use Rattle.jvm_model.proofs.BuiltinRules.{all_at, lengths, builtin_class, builtin_method, builtin_class_name, builtin_field_forms, builtin_method_forms, builtin_method_room}
use Rattle.jvm_model.proofs.Ranges.{all_there}
use Rattle.class_link.specs.{ClassNames.text_at, ClassNames.own_name, Literals.literals}
use Rattle.class_link.specs.Assembly.{initialiser_from, member_recs, method_rec, assembled}
use Rattle.class_link.proofs.Blocks.{before, all_members, member_at, member_cases, all_numbers}
use Rattle.class_link.proofs.Assembled.{own_fields, own_methods, make_field, make_method, holds_builtins, class_given, method_given, class_cases, field_cases, method_cases}
use Rattle.et_base.proofs.Texts.{units_true}
use Rattle.class_link.proofs.{Numbered.if_some, Records.initialiser_is}
use Rattle.class_link.proofs.Tables.{all_from, all_from_at, owns_members, fields_owned, methods_owned, is_once, fields_once, methods_once, is_under, classes_under, top}

-- ---- a number stands once in a range

count_past : (n a k : ℕ) → n < a → count n (range_with_len a k) ≡ 0
count_past n a zero h = refl
count_past n a (suc k) h = let e : nat_eq n a ≡ false = ne_eqb n a (λ q. omega arith) in rw e (count_past n (a + 1) k (omega arith))

count_range : (n a k : ℕ) → a ≤ n → n < a + k → count n (range_with_len a k) ≡ 1
count_range n a zero h g = absurd (omega arith)
count_range n a (suc k) h g = elim (cases_order n a) [
  | inl e ↦ let q : nat_eq n a ≡ true = eq-eqb n a e in rw q (ap suc (count_past n (a + 1) k (omega arith)))
  | inr o ↦ elim o [
    | inl l ↦ absurd (omega arith)
    | inr l ↦ let q : nat_eq n a ≡ false = ne_eqb n a (λ z. omega arith) in rw q (count_range n (a + 1) k (omega arith) (omega arith))
  ]
]

-- ---- facts of class files

pub text_is : (test : List ℕ → Bool) (slots : List (Option Entry)) (i : ℕ) (t : NamesText test slots i) → text_at slots i ≡ t.units
text_is test slots i t = ap (λ (o : Option (List ℕ)). unwrap_or o []) (units_are test slots i t)

pub text_fits : (test : List ℕ → Bool) (slots : List (Option Entry)) (i : ℕ) → NamesText test slots i → test (text_at slots i) ≡ true
text_fits test slots i t = ap test (text_is test slots i t) ∙ t.fits

-- the argument units, with that of this, are at most 255
room_by : (flags n : ℕ) (static : Bool) → is_static flags ≡ static → own_units flags + n ≤ 255 → nat_le (cond static n (n + 1)) 255 ≡ true
room_by flags n true e h = le-leb n 255 (omega arith)
room_by flags n false e h =
    let unset : flags / 8 % 2 ≡ 0 = omega (arith, eqb-false (flags / 8 % 2) 1 e) in
    let bit : bit_and flags 8 ≡ flags / 8 % 2 * 8 = and_pow flags 3 in
    let own : own_units flags ≡ 1 = ap (λ x. if x == 0 then 1 else 0) (bit ∙ ap (λ x. x * 8) unset) in
    le-leb (n + 1) 255 (omega arith)

room_of : (flags : ℕ) (slots : List (Option Entry)) (i : ℕ) (t : NamesText is_method_descriptor slots i) → HasRoom flags t.units → has_room flags (argument_units (text_at slots i)) ≡ true
room_of flags slots i t r =
    ap (λ us. has_room flags (argument_units us)) (text_is is_method_descriptor slots i t)
    ∙ ap (has_room flags) r.counted
    ∙ room_by flags r.units (is_static flags) refl r.few

-- the facts of each class file
abbrev pub AllKnown : List ClassParts → Type 0
AllKnown cs = (i : ℕ) (c : ClassParts) → slice_get cs i ≡ Some c → ClassFacts c

-- ---- members of one sort

module _ (body : ClassParts → CodePart → Body) (cs : List ClassParts) (tests : List TestEntry) (files : List (List ℕ × List ℕ)) where
  abbrev p : Program
  p = assembled body cs tests files

  -- fields or methods, by how a class lists them
  module _ {X : Type 0} (make : ClassParts → ℕ → MemberPart → X) (members : ClassParts → List MemberPart) (built_in : List X) (none : X) (class : X → ℕ) (list : ClassRec → List ℕ)
      (made : (c : ClassParts) (n : ℕ) (x : MemberPart) → class (make c n x) ≡ n)
      (listed : (i : ℕ) (c : ClassParts) → slice_get cs i ≡ Some c → list (class_at p (builtin_count + i)) ≡ range_with_len (length built_in + before members cs i) (length (members c))) where
    abbrev at : ℕ → X
    at j = get_or (all_members make members built_in none cs) j none

    built_in_at : (j : ℕ) → j < length built_in → at j ≡ get_or built_in j none
    built_in_at j h = get_or_append_left built_in (member_recs make members builtin_count cs) none j h

    -- a member is listed once, by its class
    once : all_from (is_once class list) 0 built_in ≡ true → (j : ℕ) → j < length (all_members make members built_in none cs) → count j (list (class_at p (class (at j)))) ≡ 1
    once table j h = elim (member_cases make members built_in none cs j h) [
      | inl g ↦
          let x = get_or built_in j none in
          let q = and_parts (nat_lt (class x) builtin_count) _ (all_from_at (is_once class list) built_in j none table g) in
          ap (λ y. count j (list (class_at p (class y)))) (built_in_at j g)
          ∙ ap (λ (r : ClassRec). count j (list r)) (builtin_class p (holds_builtins body cs tests files) (class x) (ltb-true (class x) builtin_count q.0))
          ∙ eqb-true _ 1 q.1
      | inr g ↦
          let w = slice_get_within (members g.parts) g.index g.member g.has_member in
          let e = g.place in
          ap (λ y. count j (list (class_at p (class y)))) g.is ∙ ap (λ n. count j (list (class_at p n))) (made g.parts (builtin_count + g.class) g.member) ∙ ap (count j) (listed g.class g.parts g.has_class)
          ∙ count_range j (length built_in + before members cs g.class) (length (members g.parts)) (omega arith) (omega arith)
    ]

    -- and a class lists its own
    own : all_from (owns_members class list built_in none) 0 builtin_classes ≡ true → (c : ℕ) → IsClass p c → All (λ j. class (at j) ≡ c) (list (class_at p c))
    own table c h = elim (class_cases body cs tests files c h) [
      | inl g ↦
          let n = lengths.0 in
          let t : owns_members class list built_in none c (class_at p c) ≡ true =
          ap (owns_members class list built_in none c) (builtin_class p (holds_builtins body cs tests files) c g) ∙ all_from_at (owns_members class list built_in none) builtin_classes c no_class table (omega arith) in
          λ k d l.
          let j = get_or (list (class_at p c)) k d in
          let q = and_parts (nat_lt j (length built_in)) _ (all_at (λ j. nat_lt j (length built_in) && nat_eq (class (get_or built_in j none)) c) (list (class_at p c)) k d t l) in
          ap class (built_in_at j (ltb-true j (length built_in) q.0)) ∙ eqb-true _ c q.1
      | inr g ↦
          subst (λ n. All (λ j. class (at j) ≡ n) (list (class_at p n))) (sym g.number)
          (subst (λ js. All (λ j. class (at j) ≡ builtin_count + g.index) js) (sym (listed g.index g.parts g.there))
          (all_numbers make members built_in none cs (λ j. class (at j) ≡ builtin_count + g.index) g.index g.parts (λ k x there. ap class (member_at make members built_in none cs g.index k g.parts x g.there there).1 ∙ made g.parts (builtin_count + g.index) x)))
    ]

  -- ---- the laws

  module _ (known : AllKnown cs) where
    -- ---- names

    named_class : (c : ℕ) → IsClass p c → is_class_name (class_at p c).name ≡ true
    named_class c h = elim (class_cases body cs tests files c h) [
      | inl g ↦ builtin_class_name p (holds_builtins body cs tests files) c g
      | inr g ↦
          let o = (known g.index g.parts g.there).this_class in
          let e : own_name g.parts ≡ o.text.units = ap (λ (x : Option (List ℕ)). unwrap_or x []) (own_name_is g.parts.pool g.parts.this_class o) in
          ap (λ (n : ℕ). is_class_name (class_at p n).name) g.number
          ∙ (ap (λ (y : ClassRec). is_class_name y.name) (class_given body cs tests files g.index g.parts g.there) ∙ (ap is_class_name e ∙ o.text.fits))
    ]

    named_field : (f : ℕ) → IsField p f → (is_unqualified (field_at p f).name ≡ true) × (is_field_descriptor (field_at p f).descriptor ≡ true)
    named_field f h = elim (field_cases body cs tests files f h) [
      | inl g ↦ builtin_field_forms p (holds_builtins body cs tests files) f g
      | inr g ↦
          let x : FieldFacts g.parts.pool g.member = all_there (FieldFacts g.parts.pool) g.parts.fields g.index g.member (known g.class g.parts g.has_class).fields.each g.has_member in
          subst (λ (y : FieldRec). (is_unqualified y.name ≡ true) × (is_field_descriptor y.descriptor ≡ true)) (sym g.is)
          (text_fits is_unqualified g.parts.pool g.member.name x.name, text_fits is_field_descriptor g.parts.pool g.member.descriptor x.descriptor)
    ]

    named_method : (m : ℕ) → IsMethod p m → (is_method_name (method_at p m).name ≡ true) × (is_method_descriptor (method_at p m).descriptor ≡ true)
    named_method m h = elim (method_cases body cs tests files m h) [
      | inl g ↦ builtin_method_forms p (holds_builtins body cs tests files) m g
      | inr g ↦
          let x : MethodFacts g.parts.pool g.member = all_there (MethodFacts g.parts.pool) g.parts.methods g.index g.member (known g.class g.parts g.has_class).methods.each g.has_member in
          subst (λ (y : MethodRec). (is_method_name y.name ≡ true) × (is_method_descriptor y.descriptor ≡ true)) (sym g.is)
          (text_fits is_method_name g.parts.pool g.member.name x.name, text_fits is_method_descriptor g.parts.pool g.member.descriptor x.descriptor)
    ]

    roomy_method : (m : ℕ) → IsMethod p m → has_room (method_at p m).flags (argument_units (method_at p m).descriptor) ≡ true
    roomy_method m h = elim (method_cases body cs tests files m h) [
      | inl g ↦ builtin_method_room p (holds_builtins body cs tests files) m g
      | inr g ↦
          let x : MethodFacts g.parts.pool g.member = all_there (MethodFacts g.parts.pool) g.parts.methods g.index g.member (known g.class g.parts g.has_class).methods.each g.has_member in
          subst (λ (y : MethodRec). has_room y.flags (argument_units y.descriptor) ≡ true) (sym g.is)
          (room_of g.member.flags g.parts.pool g.member.descriptor x.descriptor x.room)
    ]

    -- ---- superclasses, initialisers and built-in methods

    under : (c : ℕ) → c < builtin_count → is_under c (class_at p c) ≡ true
    under c h = let n = lengths.0 in ap (is_under c) (builtin_class p (holds_builtins body cs tests files) c h) ∙ all_from_at is_under builtin_classes c no_class classes_under (omega arith)

    root_is : (c : ℕ) → IsClass p c → (class_at p c).superclass ≡ None → c ≡ object_class
    root_is c h e = elim (class_cases body cs tests files c h) [
      | inl g ↦ elim (or_cases (is_some (class_at p c).superclass) (nat_eq c 0) (and_parts (is_none (class_at p c).initialiser) _ (under c g)).1) [
        | inl s ↦ absurd (let z : is_some (class_at p c).superclass ≡ false = rw e refl in cc)
        | inr z ↦ eqb-true c 0 z
      ]
      | inr g ↦
          let s : (class_at p c).superclass ≡ Some _ = ap (λ (n : ℕ). (class_at p n).superclass) g.number ∙ ap (λ (y : ClassRec). y.superclass) (class_given body cs tests files g.index g.parts g.there) in
          absurd (cc)
    ]

    top_is : (class_at p object_class).superclass ≡ None
    top_is = ap (λ (y : ClassRec). y.superclass) (builtin_class p (holds_builtins body cs tests files) 0 (omega arith)) ∙ top

    initialiser_made : (i : ℕ) (c : ClassParts) → slice_get cs i ≡ Some c → (m : ℕ) → initialiser_from (length builtin_methods + before own_methods cs i) c.pool c.methods ≡ Some m → IsInitialiser p (builtin_count + i) m
    initialiser_made i c h m e =
        let r = initialiser_is (length builtin_methods + before own_methods cs i) c.pool c.methods m e in
        let x = r.member in
        let y : method_at p m ≡ method_rec (body c) c.pool (builtin_count + i) x = ap (λ (n : ℕ). method_at p n) r.number ∙ (method_given body cs tests files i r.index c x h r.there).1 in
        let a = and_parts (is_static x.flags) _ r.is in
        let b = and_parts (bytes_eq (text_at c.pool x.name) clinit_name) _ a.1 in
        let d = and_parts (bytes_eq (text_at c.pool x.descriptor) no_arguments) (is_some x.code) b.1 in
        record {
          own = ap (λ (y : MethodRec). y.class) y;
          static = ap (λ (y : MethodRec). is_static y.flags) y ∙ a.0;
          name = ap (λ (y : MethodRec). y.name) y ∙ units_true _ _ b.0;
          descriptor = ap (λ (y : MethodRec). y.descriptor) y ∙ units_true _ _ d.0;
          code = ap (λ (y : MethodRec). is_some y.body) y ∙ mapped x.code d.1;
        }
      where
        mapped : (o : Option CodePart) → is_some o ≡ true → is_some (option_map (body c) o) ≡ true
        mapped None q = q
        mapped (Some x) q = refl

    initialisers_are : (c : ℕ) → IsClass p c → IfSome (class_at p c).initialiser (λ m. IsInitialiser p c m)
    initialisers_are c h = elim (class_cases body cs tests files c h) [
      | inl g ↦ no_value (class_at p c).initialiser (λ m. IsInitialiser p c m) (and_parts _ (is_some (class_at p c).superclass || nat_eq c 0) (under c g)).0
      | inr g ↦
          subst (λ n. IfSome (class_at p n).initialiser (λ m. IsInitialiser p n m)) (sym g.number)
          (subst (λ (y : ClassRec). IfSome y.initialiser (λ m. IsInitialiser p (builtin_count + g.index) m)) (sym (class_given body cs tests files g.index g.parts g.there))
          (if_some (λ m. IsInitialiser p (builtin_count + g.index) m) (initialiser_from (length builtin_methods + before own_methods cs g.index) g.parts.pool g.parts.methods) (initialiser_made g.index g.parts g.there)))
    ]
      where
        no_value : (o : Option ℕ) (Q : ℕ → Type 0) → is_none o ≡ true → IfSome o Q
        no_value None Q q = tt
        no_value (Some x) Q q = absurd (cc)

    no_natives : (m : ℕ) → IsMethod p m → builtin_count ≤ (method_at p m).class → (method_at p m).native ≡ None
    no_natives m h l = elim (method_cases body cs tests files m h) [
      | inl g ↦
          let n = lengths.2 in
          let x = get_or builtin_methods m no_method in
          let w : x.class < builtin_count = ltb-true x.class builtin_count (and_parts (nat_lt x.class builtin_count) _ (all_from_at (is_once (λ (y : MethodRec). y.class) (λ r. r.methods)) builtin_methods m no_method methods_once (omega arith))).0 in
          let e : (method_at p m).class ≡ x.class = ap (λ (y : MethodRec). y.class) (builtin_method p (holds_builtins body cs tests files) m g) in
          absurd (omega arith)
      | inr g ↦ ap (λ (y : MethodRec). y.native) g.is
    ]

    pub is_listed : IsListed p
    unfolding assembled
    is_listed =
        let fields : FieldRec → ℕ = λ x. x.class in
        let methods : MethodRec → ℕ = λ x. x.class in
        let field_lists = λ (i : ℕ) (c : ClassParts) (h : slice_get cs i ≡ Some c). ap (λ (r : ClassRec). r.fields) (class_given body cs tests files i c h) in
        let method_lists = λ (i : ℕ) (c : ClassParts) (h : slice_get cs i ≡ Some c). ap (λ (r : ClassRec). r.methods) (class_given body cs tests files i c h) in
        record {
          fields = once (make_field (literals cs)) own_fields builtin_fields no_field fields (λ r. r.fields) (λ c n x. refl) field_lists fields_once;
          methods = once (make_method body) own_methods builtin_methods no_method methods (λ r. r.methods) (λ c n x. refl) method_lists methods_once;
          own_fields = own (make_field (literals cs)) own_fields builtin_fields no_field fields (λ r. r.fields) (λ c n x. refl) field_lists fields_owned;
          own_methods = own (make_method body) own_methods builtin_methods no_method methods (λ r. r.methods) (λ c n x. refl) method_lists methods_owned;
          class_names = named_class;
          field_names = named_field;
          method_names = named_method;
          arguments = roomy_method;
          root = root_is;
          top = top_is;
          initialisers = initialisers_are;
          natives = no_natives;
        }
