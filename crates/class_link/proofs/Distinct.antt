-- What has to differ in a linked program differs: classes, members, string constants, files.
use Rattle.std.proofs.Common.{◌≡◌, ℕ, ◌+◌, ◌<◌, List, [], ◌∷◌, ◌++◌, length, map, get_or, slice_get, Bool, true, false, cond, refl, sym, ◌∙◌, ap, subst, inl, inr, arith, append_assoc, Option, Some, None}
use Rattle.std.specs.Prelude.{flat_map}
use Rattle.std.specs.{List.list_any, Str.bytes_eq}
use Rattle.std.proofs.lemmas.Bool.{cases_Bool, cases_lt, cases_order, and_parts, and_from, ltb-true, eq-eqb, cond-true, cond-false, cond_both}
use Rattle.std.proofs.lemmas.List.{append-nil, length_push, get_or_push, get_or_append_left}
use Rattle.std.proofs.lemmas.Option.{slice_get_within, get_or_from_slice_get}
use Rattle.class_pool.specs.{declared.pool.Entry.Entry, Pool.entry_of, Pool.text_of}
use Rattle.class_pool.proofs.EntryFacts.{NamesText, units_are}
use Rattle.class_reader.specs.declared.parts.{ClassParts.ClassParts, MemberPart.MemberPart, CodePart.CodePart}
use Rattle.class_reader.proofs.MemberFacts.{FieldFacts, MethodFacts, Differ}
use Rattle.et_base.specs.Names.{is_unqualified, is_method_name, is_field_descriptor, is_method_descriptor}
use Rattle.jvm_model.specs.declared.program.{Program.Program, FieldRec.FieldRec, MethodRec.MethodRec, Body.Body, TestEntry.TestEntry}
use Rattle.jvm_model.specs.{Builtin.builtin_count, Library.builtin_classes, Library.builtin_fields, Library.builtin_methods}
use Rattle.jvm_model.specs.Classes.{class_at, field_at, method_at, no_field, no_method}
use Rattle.jvm_model.specs.Linked.{IsClass, IsField, IsMethod, IsDistinct}
use Rattle.jvm_model.proofs.Ranges.{all_there}
use Rattle.class_link.specs.{ClassNames.text_at, ClassNames.own_name, ClassNames.all_names, Literals.strings_of, Literals.noted, Literals.literals}
use Rattle.class_link.specs.{Assembly.member_recs, Assembly.assembled, Faults.duplicate, Faults.duplicate_fault, Link.AreDifferent}
use Rattle.class_link.proofs.Blocks.{before, GivenMember, all_members, member_cases}
use Rattle.class_link.proofs.Assembled.{own_fields, own_methods, make_field, make_method}
use Rattle.et_base.proofs.Texts.{units_same}
use Rattle.class_link.proofs.{Numbered.names_length, Numbered.name_of_class, Listed.AllKnown, Listed.text_is}
use Rattle.class_link.proofs.Tables.{all_from_at, none_at, all_differ, all_differ_at, is_once, fields_once, methods_once, Tag, same_tag, field_tag, method_tag, fields_differ, methods_differ, builtins_differ}

-- ---- entries that differ

-- what differs wherever one place is before another differs by its place
differ_by : {A : Type 0} (f : ℕ → A) (n : ℕ) → ((i j : ℕ) → i < j → j < n → f i ≡ f j → ⊥) → (i j : ℕ) → i < n → j < n → f i ≡ f j → i ≡ j
differ_by f n apart i j h g e = elim (cases_order i j) [
  | inl q ↦ q
  | inr o ↦ elim o [ inl l ↦ absurd (apart i j l g e) | inr l ↦ absurd (apart j i l h (sym e)) ]
]

AreApart : List (List ℕ) → Type 0
AreApart xs = (i j : ℕ) → i < j → j < length xs → get_or xs i [] ≡ get_or xs j [] → ⊥

apart_push : (xs : List (List ℕ)) (x : List ℕ) → AreApart xs → list_any (bytes_eq x) xs ≡ false → AreApart (xs ++ x ∷ [])
unfolding AreApart
apart_push xs x a n i j h g e = elim (cases_lt j (length xs)) [
  | inl l ↦ a i j h l (sym (get_or_append_left xs (x ∷ []) [] i (omega arith)) ∙ (e ∙ get_or_append_left xs (x ∷ []) [] j l))
  | inr l ↦
      let p = length_push xs x in
      let k : length xs ≡ j = omega arith in
      let q : get_or xs i [] ≡ x = sym (get_or_append_left xs (x ∷ []) [] i (omega arith)) ∙ (e ∙ get_or_push xs x [] j k) in
      let f : bytes_eq x (get_or xs i []) ≡ false = none_at (bytes_eq x) xs i [] n (omega arith) in
      let t : bytes_eq x (get_or xs i []) ≡ true = units_same x (get_or xs i []) (sym q) in
      cc
]

noted_apart : (seen xs : List (List ℕ)) → AreApart seen → AreApart (noted seen xs)
noted_apart seen [] a = a
noted_apart seen (x ∷ xs) a = noted_apart (cond (list_any (bytes_eq x) seen) seen (seen ++ x ∷ [])) xs (cond_both (list_any (bytes_eq x) seen) seen (seen ++ x ∷ []) AreApart (λ _. a) (apart_push seen x a))

none_apart : AreApart []
unfolding AreApart
none_apart i j h g e = omega arith

-- names without a duplicate
names_apart : (front : List (List ℕ)) (cs : List ClassParts) → AreApart front → duplicate front cs ≡ None → AreApart (front ++ map own_name cs)
names_apart front [] a e = subst AreApart (sym (append-nil front)) a
names_apart front (x ∷ cs) a e = elim (cases_Bool (list_any (bytes_eq (own_name x)) front)) [
  | inl t ↦ let z = sym (cond-true (list_any (bytes_eq (own_name x)) front) _ (duplicate (front ++ own_name x ∷ []) cs) t) ∙ e in absurd (cc)
  | inr f ↦ subst AreApart (append_assoc front (own_name x ∷ []) (map own_name cs))
      (names_apart (front ++ own_name x ∷ []) cs (apart_push front (own_name x) a f) (sym (cond-false (list_any (bytes_eq (own_name x)) front) _ (duplicate (front ++ own_name x ∷ []) cs) f) ∙ e))
]

-- ---- members

-- members of one class that have one name and descriptor are one
same_member : (slots : List (Option Entry)) (xs : List MemberPart) (named typed : List ℕ → Bool) → Differ slots xs → (i j : ℕ) (x y : MemberPart) → slice_get xs i ≡ Some x → slice_get xs j ≡ Some y →
    NamesText named slots x.name → NamesText named slots y.name → NamesText typed slots x.descriptor → NamesText typed slots y.descriptor →
    text_at slots x.name ≡ text_at slots y.name → text_at slots x.descriptor ≡ text_at slots y.descriptor → i ≡ j
same_member slots xs named typed d i j x y h g nx ny tx ty en et =
    let p = get_or_from_slice_get xs i x x h in
    let q = get_or_from_slice_get xs j y x g in
    let a : text_of (entry_of slots x.name) ≡ text_of (entry_of slots y.name) = same_text named x.name y.name nx ny en in
    let b : text_of (entry_of slots x.descriptor) ≡ text_of (entry_of slots y.descriptor) = same_text typed x.descriptor y.descriptor tx ty et in
    d i j x (slice_get_within xs i x h) (slice_get_within xs j y g)
    (ap (λ (m : MemberPart). text_of (entry_of slots m.name)) p ∙ (a ∙ ap (λ (m : MemberPart). text_of (entry_of slots m.name)) (sym q)))
    (ap (λ (m : MemberPart). text_of (entry_of slots m.descriptor)) p ∙ (b ∙ ap (λ (m : MemberPart). text_of (entry_of slots m.descriptor)) (sym q)))
  where
    same_text : (test : List ℕ → Bool) (a b : ℕ) → NamesText test slots a → NamesText test slots b → text_at slots a ≡ text_at slots b → text_of (entry_of slots a) ≡ text_of (entry_of slots b)
    same_text test a b s t e = units_are test slots a s ∙ (ap (λ (us : List ℕ). Some us) (sym (text_is test slots a s) ∙ (e ∙ text_is test slots b t)) ∙ sym (units_are test slots b t))

module _ {X : Type 0} (make : ClassParts → ℕ → MemberPart → X) (members : ClassParts → List MemberPart) (built_in : List X) (none : X) (tag : X → Tag) (cs : List ClassParts)
    (made : (c : ClassParts) (n : ℕ) (x : MemberPart) → tag (make c n x) ≡ (n, text_at c.pool x.name, text_at c.pool x.descriptor)) (apart : all_differ (λ x y. same_tag (tag x) (tag y)) built_in ≡ true)
    (low : (j : ℕ) → j < length built_in → (tag (get_or built_in j none)).0 < builtin_count) (named typed : List ℕ → Bool) (differ : (i : ℕ) (c : ClassParts) → slice_get cs i ≡ Some c → Differ c.pool (members c))
    (texts : (i k : ℕ) (c : ClassParts) (x : MemberPart) → slice_get cs i ≡ Some c → slice_get (members c) k ≡ Some x → NamesText named c.pool x.name × NamesText typed c.pool x.descriptor) where
  abbrev at : ℕ → X
  at j = get_or (all_members make members built_in none cs) j none

  abbrev Given : ℕ → Type 0
  Given j = GivenMember make members (length built_in) cs j (at j)

  built_in_at : (j : ℕ) → j < length built_in → at j ≡ get_or built_in j none
  built_in_at j h = get_or_append_left built_in (member_recs make members builtin_count cs) none j h

  built_in_once : (j k : ℕ) → j < length built_in → k < length built_in → tag (get_or built_in j none) ≡ tag (get_or built_in k none) → j ≡ k
  built_in_once = differ_by (λ j. tag (get_or built_in j none)) (length built_in) (λ j k l h e.
      let s = tag (get_or built_in j none) in
      let t = tag (get_or built_in k none) in
      let no : same_tag s t ≡ false = all_differ_at (λ x y. same_tag (tag x) (tag y)) built_in j k none apart l h in
      let yes : same_tag s t ≡ true = and_from _ _ (eq-eqb s.0 t.0 (ap (λ (x : Tag). x.0) e)) (and_from _ _ (units_same s.1 t.1 (ap (λ (x : Tag). x.1) e)) (units_same s.2 t.2 (ap (λ (x : Tag). x.2) e))) in
      cc)

  -- a built-in member isn't one of a given class
  not_given : (j k : ℕ) → j < length built_in → Given k → tag (at j) ≡ tag (at k) → ⊥
  not_given j k h g e =
      let l = low j h in
      let class : (tag (get_or built_in j none)).0 ≡ builtin_count + g.class = ap (λ (t : Tag). t.0) (ap tag (sym (built_in_at j h)) ∙ e ∙ ap tag g.is ∙ made g.parts (builtin_count + g.class) g.member) in
      omega arith

  -- given members of one tag are one
  given_once : (j k : ℕ) → Given j → Given k → tag (at j) ≡ tag (at k) → j ≡ k
  given_once j k a b e =
      let tags = sym (ap tag a.is ∙ made a.parts (builtin_count + a.class) a.member) ∙ e ∙ ap tag b.is ∙ made b.parts (builtin_count + b.class) b.member in
      let above : builtin_count + a.class ≡ builtin_count + b.class = ap (λ (t : Tag). t.0) tags in
      let class : a.class ≡ b.class = omega arith in
      let s : Some a.parts ≡ Some b.parts = sym a.has_class ∙ (ap (slice_get cs) class ∙ b.has_class) in
      let c : b.parts ≡ a.parts = cc in
      let there : slice_get (members a.parts) b.index ≡ Some b.member = ap (λ (x : ClassParts). slice_get (members x) b.index) (sym c) ∙ b.has_member in
      let tx = texts a.class a.index a.parts a.member a.has_class a.has_member in
      let ty = texts a.class b.index a.parts b.member a.has_class there in
      let index : a.index ≡ b.index = same_member a.parts.pool (members a.parts) named typed (differ a.class a.parts a.has_class) a.index b.index a.member b.member a.has_member there tx.0 ty.0 tx.1 ty.1
      (ap (λ (t : Tag). t.1) tags ∙ ap (λ (x : ClassParts). text_at x.pool b.member.name) c) (ap (λ (t : Tag). t.2) tags ∙ ap (λ (x : ClassParts). text_at x.pool b.member.descriptor) c) in
      a.place ∙ (λ i. (length built_in + before members cs (class i)) + index i) ∙ sym b.place

  once : (j k : ℕ) → j < length (all_members make members built_in none cs) → k < length (all_members make members built_in none cs) → tag (at j) ≡ tag (at k) → j ≡ k
  once j k h g e = elim (member_cases make members built_in none cs j h) [
    | inl a ↦ elim (member_cases make members built_in none cs k g) [
      | inl b ↦ built_in_once j k a b (ap tag (sym (built_in_at j a)) ∙ e ∙ ap tag (built_in_at k b))
      | inr b ↦ absurd (not_given j k a b e)
    ]
    | inr a ↦ elim (member_cases make members built_in none cs k g) [
      | inl b ↦ absurd (not_given k j b a (sym e))
      | inr b ↦ given_once j k a b e
    ]
  ]

-- ---- the whole

module _ (body : ClassParts → CodePart → Body) (cs : List ClassParts) (tests : List TestEntry) (files : List (List ℕ × List ℕ)) where
  abbrev p : Program
  p = assembled body cs tests files

  classes_differ : duplicate_fault cs ≡ None → (c d : ℕ) → IsClass p c → IsClass p d → (class_at p c).name ≡ (class_at p d).name → c ≡ d
  unfolding all_names AreApart
  classes_differ e c d h g q =
      let builtins : AreApart (map (λ x. x.name) builtin_classes) = subst AreApart builtins_differ (noted_apart [] (map (λ x. x.name) builtin_classes) none_apart) in
      let long = names_length body cs tests files in
      differ_by (λ n. get_or (all_names cs) n []) (length (all_names cs)) (names_apart (map (λ x. x.name) builtin_classes) cs builtins e) c d (omega arith) (omega arith)
      (name_of_class body cs tests files c h ∙ q ∙ sym (name_of_class body cs tests files d g))

  module _ (known : AllKnown cs) where
    fields_differ_all : (f g : ℕ) → IsField p f → IsField p g → field_tag (field_at p f) ≡ field_tag (field_at p g) → f ≡ g
    unfolding assembled
    fields_differ_all = once (make_field (literals cs)) own_fields builtin_fields no_field field_tag cs (λ c n x. refl) fields_differ
        (λ j h. ltb-true _ builtin_count (and_parts _ _ (all_from_at (is_once (λ (x : FieldRec). x.class) (λ r. r.fields)) builtin_fields j no_field fields_once h)).0)
        is_unqualified is_field_descriptor (λ i c h. (known i c h).fields.differ)
        (λ i k c x h g. let t : FieldFacts c.pool x = all_there (FieldFacts c.pool) c.fields k x (known i c h).fields.each g in (t.name, t.descriptor))

    methods_differ_all : (m n : ℕ) → IsMethod p m → IsMethod p n → method_tag (method_at p m) ≡ method_tag (method_at p n) → m ≡ n
    unfolding assembled
    methods_differ_all = once (make_method body) own_methods builtin_methods no_method method_tag cs (λ c n x. refl) methods_differ
        (λ j h. ltb-true _ builtin_count (and_parts _ _ (all_from_at (is_once (λ (x : MethodRec). x.class) (λ r. r.methods)) builtin_methods j no_method methods_once h)).0)
        is_method_name is_method_descriptor (λ i c h. (known i c h).methods.differ)
        (λ i k c x h g. let t : MethodFacts c.pool x = all_there (MethodFacts c.pool) c.methods k x (known i c h).methods.each g in (t.name, t.descriptor))

    literals_differ : (i j : ℕ) → i < length p.literals → j < length p.literals → get_or p.literals i [] ≡ get_or p.literals j [] → i ≡ j
    unfolding assembled literals AreApart
    literals_differ = differ_by (λ i. get_or (literals cs) i []) (length (literals cs)) (noted_apart [] (flat_map (λ (c : ClassParts). strings_of c.pool) cs) none_apart)

    pub is_distinct : duplicate_fault cs ≡ None → AreDifferent files ([], []) (λ x. x.0) → IsDistinct p
    unfolding assembled
    is_distinct e f = record {
      classes = classes_differ e;
      fields = λ f g h k class name descriptor. fields_differ_all f g h k (λ i. (class i, name i, descriptor i));
      methods = λ m n h k class name descriptor. methods_differ_all m n h k (λ i. (class i, name i, descriptor i));
      literals = literals_differ;
      files = f;
    }
