-- The program without quiet initialisers is linked (JVMS 5.3 and 5.4).
use Rattle.std.proofs.Common.{◌≡◌, ◌⊎◌, ℕ, zero, suc, ◌+◌, ◌<◌, ◌≤◌, List, [], ◌∷◌, length, get_or, map, take, All, Bool, true, false, cond, ◌||◌, nat_eq, nat_lt, Option, Some, None, IfSome, IsSome, is_none, refl, sym, ◌∙◌, ap, subst, inl, inr, arith}
use Rattle.std.specs.List.{list_all, range_with_len}
use Rattle.et_base.specs.Names.{is_unqualified, is_class_name, is_field_descriptor}
use Rattle.std.proofs.lemmas.Bool.{and_parts, cases_Bool, ltb-true}
use Rattle.jvm_model.specs.declared.{instr.Instr.Instr, program.Body.Body, program.ClassRec.ClassRec, program.Program.Program, program.TestEntry.TestEntry}
use Rattle.jvm_model.specs.declared.instr.Instr.TheVariants as form
use Rattle.jvm_model.specs.{declared.values.Base.Base, declared.values.Kind.Kind, declared.values.Value.Value, World.at, Lookup.lacks_method, Lookup.find_field}
use Rattle.jvm_model.specs.declared.values.Base.TheVariants as base
use Rattle.jvm_model.specs.declared.values.Kind.TheVariants as kind
use Rattle.jvm_model.specs.declared.values.Location.TheVariants as place
use Rattle.jvm_model.specs.declared.values.Value.TheVariants as value
use Rattle.jvm_model.specs.{Selection.named_class, Builtin.builtin_count, Builtin.object_class, Builtin.throwable_class}
use Rattle.jvm_model.specs.Library.{builtin_defs, builtin_classes, builtin_fields}
use Rattle.jvm_model.specs.Classes.{no_class, no_field, class_at, field_at, method_at, is_static, is_abstract, is_interface, member}
use Rattle.jvm_model.specs.Linked.{IsClass, IsField, IsMethod, IsBase, IsKind, IsArray, HoldsBuiltins, NamesClass, NamesForm, NamesBody, NamesEntries, IsDirect, IsAncestor, IsClassKind, IsStaticMethod, IsPlainMethod, IsFormKind, IsBodyKind, HasKinds, IsDistinct, count, IsInitialiser, IsListed, IsFormFound, FindsMembers, IsTest, Linked, is_word}
use Rattle.jvm_model.proofs.BuiltinRules.{class_keeps, field_keeps}
use Rattle.type_frames.specs.Typing.{IsTyped}
use Rattle.quiet_init.specs.Quiet.{is_still_start, starts_still, is_quiet, left_by, quiet_class, quiet_field, quiet}
use Rattle.quiet_init.proofs.Kept.{is_below_kept, find_method_kept, find_field_kept, constructor_kept, test_method_kept}
use Rattle.quiet_init.proofs.Openings.{openings_kept}
use Rattle.quiet_init.proofs.Parts.{class_count, field_count, class_is, flags_kept, above_kept, interfaces_kept, methods_kept, fields_kept, names_kept, kept, owners_kept, field_names_kept, descriptors_kept, field_flags_kept}

-- what holds in the second of two alike types holds in the first
back : {A B : Type 0} → A ≡ B → B → A
back e b = subst (λ (T : Type 0). T) (sym e) b

-- ---- the built-in part

take_range : {X : Type 0} (n : ℕ) (h : ℕ → X) (xs : List X) (k : ℕ) (d : X) → ((i : ℕ) → i < n → i < length xs → h (k + i) ≡ get_or xs i d) → take n (map h (range_with_len k (length xs))) ≡ take n xs
take_range zero h xs k d e = refl
take_range (suc n) h [] k d e = refl
take_range {X = X} (suc n) h (x ∷ xs) k d e =
    ap (λ (y : X). y ∷ take n (map h (range_with_len (k + 1) (length xs)))) (let z : k + 0 ≡ k = omega arith in ap h (sym z) ∙ e 0 (omega arith) (omega arith))
    ∙ ap (λ (ys : List X). x ∷ ys) (take_range n h xs (k + 1) d (λ i l m. (let z : k + 1 + i ≡ k + suc i = omega arith in ap h z) ∙ e (suc i) (omega arith) (omega arith)))

startless : list_all (λ c. is_none c.initialiser) builtin_classes ≡ true
unfolding builtin_classes builtin_defs
startless = refl

fields_within : list_all (λ x. nat_lt x.class builtin_count) builtin_fields ≡ true
unfolding builtin_fields builtin_defs
fields_within = refl

two_fields : length builtin_fields ≡ 2
unfolding builtin_fields builtin_defs
two_fields = refl

module _ (p : Program) (b : HoldsBuiltins p) where
  no_start : (c : ℕ) (o : Option ℕ) → is_none o ≡ true → starts_still p c o ≡ true → ⊥
  no_start c None e h = cc
  no_start c (Some m) e h = cc

  not_quiet : (c : ℕ) → c < builtin_count → is_quiet p c ≡ false
  unfolding is_quiet
  not_quiet c h = elim (cases_Bool (is_quiet p c)) [
    | inr q ↦ q
    | inl q ↦ absurd (no_start c (class_at p c).initialiser (class_keeps p b (λ x. is_none x.initialiser) startless c h) (and_parts (is_still_start p c) _ q).0)
  ]

  builtins_kept : HoldsBuiltins (quiet p)
  unfolding quiet
  builtins_kept = record {
    classes = take_range builtin_count (quiet_class p) p.classes 0 no_class (λ i l m. (let z : 0 + i ≡ i = omega arith in ap (quiet_class p) z) ∙ ap (λ (q : Bool). cond q (record (class_at p i) { initialiser = None }) (class_at p i)) (not_quiet i l)) ∙ b.classes;
    fields = take_range (length builtin_fields) (quiet_field p) p.fields 0 no_field (λ i l m. (let z : 0 + i ≡ i = omega arith in ap (quiet_field p) z)
        ∙ ap (λ (q : Bool). cond q (record (field_at p i) { opening = at (left_by p (field_at p i).class) (place.Static i) }) (field_at p i))
        (not_quiet (field_at p i).class (let t = two_fields in ltb-true (field_at p i).class builtin_count (field_keeps p b (λ x. nat_lt x.class builtin_count) fields_within i (omega arith))))) ∙ b.fields;
    methods = b.methods;
  }

-- ---- numbers

module _ (p : Program) where
  -- a declared initialiser is as before, where there is one still
  starts_within : (A : ℕ → Type 0) (c : ℕ) → IfSome (class_at p c).initialiser A → IfSome (class_at (quiet p) c).initialiser A
  starts_within A c h = subst (λ (x : ClassRec). IfSome x.initialiser A) (sym (class_is p c)) (by (is_quiet p c))
    where
      by : (b : Bool) → IfSome (cond b (record (class_at p c) { initialiser = None }) (class_at p c)).initialiser A
      by true = tt
      by false = h

  is_class : (c : ℕ) → IsClass (quiet p) c ≡ IsClass p c
  is_class c = λ i. c < class_count p i

  is_field : (f : ℕ) → IsField (quiet p) f ≡ IsField p f
  is_field f = λ i. f < field_count p i

  is_base : (b : Base) → IsBase (quiet p) b ≡ IsBase p b
  is_base (base.Class c) = is_class c
  is_base _ = refl

  is_kind : (k : Kind) → IsKind (quiet p) k ≡ IsKind p k
  is_kind (kind.Class c) = is_class c
  is_kind (kind.Array d b) = λ i. (0 < d) × (d ≤ 255) × is_base b i

  is_array : (k : Kind) → IsArray (quiet p) k ≡ IsArray p k
  is_array (kind.Class c) = refl
  is_array (kind.Array d b) = is_kind (kind.Array d b)

  is_constant : (v : Value) → NamesForm (quiet p) (form.Const v) ≡ NamesForm p (form.Const v)
  unfolding quiet
  is_constant (value.Int n) = refl
  is_constant _ = refl

  names_form : (x : Instr) → NamesForm (quiet p) x ≡ NamesForm p x
  unfolding quiet
  names_form (form.Const v) = is_constant v
  names_form (form.GetStatic f) = is_field f
  names_form (form.PutStatic f) = is_field f
  names_form (form.GetField c f) = λ i. is_class c i × is_field f i
  names_form (form.PutField c f) = λ i. is_class c i × is_field f i
  names_form (form.InvokeVirtual k m) = λ i. is_kind k i × IsMethod p m
  names_form (form.InvokeSpecial k m) = λ i. is_kind k i × IsMethod p m
  names_form (form.InvokeInterface c m) = λ i. is_class c i × IsMethod p m
  names_form (form.New c) = is_class c
  names_form (form.NewArray k) = is_array k
  names_form (form.MultiNewArray k d) = is_array k
  names_form (form.CheckCast k) = is_kind k
  names_form (form.InstanceOf k) = is_kind k
  names_form _ = refl

  names_class : (c : ℕ) → NamesClass p (class_at p c) → NamesClass (quiet p) (class_at (quiet p) c)
  unfolding quiet
  names_class c n = record {
    superclass = back (λ i. IfSome (above_kept p c i) (λ d. is_class d i)) n.superclass;
    interfaces = back (λ i. All (λ d. is_class d i) (interfaces_kept p c i)) n.interfaces;
    fields = back (λ i. All (λ f. is_field f i) (fields_kept p c i)) n.fields;
    methods = back (λ i. All (λ m. IsMethod p m) (methods_kept p c i)) n.methods;
    initialiser = starts_within (λ m. IsMethod p m) c n.initialiser;
    mentions = back (λ i. All (λ d. is_class d i) (kept p (λ (x : ClassRec). x.mentions) (λ x. refl) c i)) n.mentions;
  }

  names_body : (o : Option Body) → IfSome o (λ b. NamesBody p b) → IfSome o (λ b. NamesBody (quiet p) b)
  names_body None n = tt
  names_body (Some b) n = record {
    forms = back (λ i. All (λ x. names_form x.form i) b.code) n.forms;
    handlers = back (λ i. All (λ h. IfSome h.catches (λ c. is_class c i)) b.handlers) n.handlers;
  }

  names_entries : NamesEntries p → NamesEntries (quiet p)
  unfolding quiet
  names_entries n = record {
    classes = λ c h. names_class c (n.classes c (back (sym (is_class c)) h));
    fields = λ f h. back (λ i. owners_kept p f i < class_count p i) (n.fields f (back (sym (is_field f)) h));
    methods = λ m h. back (is_class (method_at p m).class) (n.methods m h);
    bodies = λ m h. names_body (method_at p m).body (n.bodies m h);
    tests = back (λ i. All (λ t. is_class t.class i × IsMethod p t.method) p.tests) n.tests;
  }

  -- ---- ancestors and kinds

  direct_kept : (c d : ℕ) → IsDirect (quiet p) c d ≡ IsDirect p c d
  direct_kept c d = λ i. (above_kept p c i ≡ Some d) ⊎ (member d (interfaces_kept p c i) ≡ true)

  ancestor_kept : {c d : ℕ} → IsAncestor (quiet p) c d → IsAncestor p c d
  ancestor_kept (IsAncestor.direct {c = c1} {d = d1} x) = IsAncestor.direct (back (sym (direct_kept c1 d1)) x)
  ancestor_kept (IsAncestor.further {c = c1} {d = d1} x a) = IsAncestor.further (back (sym (direct_kept c1 d1)) x) (ancestor_kept a)

  class_kind : (c : ℕ) → IsClassKind p c → IsClassKind (quiet p) c
  class_kind c k = record {
    superclass = back (λ i. IfSome (above_kept p c i) (λ d. is_interface (flags_kept p d i) ≡ false)) k.superclass;
    opened = back (λ i. IfSome (above_kept p c i) (λ d. (builtin_count ≤ d) ⊎ ((d ≡ object_class) ⊎ (is_below_kept p d throwable_class i ≡ true)))) k.opened;
    interface = back (λ i. is_interface (flags_kept p c i) ≡ true → above_kept p c i ≡ Some object_class) k.interface;
    interfaces = back (λ i. All (λ d. is_interface (flags_kept p d i) ≡ true) (interfaces_kept p c i)) k.interfaces;
  }

  versions_kept : (c : ℕ) → (class_at (quiet p) c).version ≡ (class_at p c).version
  versions_kept c = kept p (λ (x : ClassRec). x.version) (λ x. refl) c

  form_kind : (c : ℕ) (x : Instr) → IsFormKind (quiet p) c x ≡ IsFormKind p c x
  unfolding quiet
  form_kind c (form.GetStatic f) = λ i. is_static (field_flags_kept p f i) ≡ true
  form_kind c (form.PutStatic f) = λ i. is_static (field_flags_kept p f i) ≡ true
  form_kind c (form.GetField d f) = λ i. (is_static (field_flags_kept p f i) ≡ false) × (is_interface (flags_kept p (owners_kept p f i) i) ≡ false)
  form_kind c (form.PutField d f) = λ i. (is_static (field_flags_kept p f i) ≡ false) × (is_interface (flags_kept p (owners_kept p f i) i) ≡ false)
  form_kind c (form.InvokeVirtual k m) = λ i. IsPlainMethod p m × (is_interface (flags_kept p (named_class k) i) ≡ false)
  form_kind c (form.InvokeSpecial k m) = λ i. IsPlainMethod p m × (is_interface (flags_kept p (named_class k) i) ≡ true → (52 ≤ versions_kept c i) × ((named_class k ≡ c) ⊎ (member (named_class k) (interfaces_kept p c i) ≡ true)))
  form_kind c (form.InvokeStatic m) = λ i. IsStaticMethod p m × (is_interface (flags_kept p (method_at p m).class i) ≡ true → 52 ≤ versions_kept c i)
  form_kind c (form.InvokeInterface d m) = λ i. IsPlainMethod p m × (is_interface (flags_kept p d i) ≡ true)
  form_kind c _ = refl

  body_kind : (c : ℕ) (o : Option Body) → IfSome o (λ b. IsBodyKind p c b) → IfSome o (λ b. IsBodyKind (quiet p) c b)
  body_kind c None k = tt
  body_kind c (Some b) k = record {
    forms = back (λ i. All (λ x. form_kind c x.form i) b.code) k.forms;
    handlers = back (λ i. All (λ h. IfSome h.catches (λ d. is_below_kept p d throwable_class i ≡ true)) b.handlers) k.handlers;
  }

  has_kinds : HasKinds p → HasKinds (quiet p)
  unfolding quiet
  has_kinds k = record {
    classes = λ c h. class_kind c (k.classes c (h.0, back (sym (is_class c)) h.1));
    bodies = λ m h. body_kind (method_at p m).class (method_at p m).body (k.bodies m h);
  }

  -- ---- names, lists and look-ups

  distinct : IsDistinct p → IsDistinct (quiet p)
  unfolding quiet
  distinct s = record {
    classes = λ c d. back (λ i. is_class c i → is_class d i → names_kept p c i ≡ names_kept p d i → c ≡ d) (s.classes c d);
    fields = λ f g. back (λ i. is_field f i → is_field g i → owners_kept p f i ≡ owners_kept p g i → field_names_kept p f i ≡ field_names_kept p g i → descriptors_kept p f i ≡ descriptors_kept p g i → f ≡ g) (s.fields f g);
    methods = s.methods;
    literals = s.literals;
    files = s.files;
  }

  initialiser_kept : (c m : ℕ) → IsInitialiser p c m → IsInitialiser (quiet p) c m
  unfolding quiet
  initialiser_kept c m h = record { own = h.own; static = h.static; name = h.name; descriptor = h.descriptor; code = h.code }

  some_kept : (A B : ℕ → Type 0) → ((m : ℕ) → A m → B m) → (o : Option ℕ) → IfSome o A → IfSome o B
  some_kept A B f None h = tt
  some_kept A B f (Some m) h = f m h

  listed : IsListed p → IsListed (quiet p)
  unfolding quiet
  listed l = record {
    fields = λ f. back (λ i. is_field f i → count f (fields_kept p (owners_kept p f i) i) ≡ 1) (l.fields f);
    methods = λ m h. back (λ i. count m (methods_kept p (method_at p m).class i) ≡ 1) (l.methods m h);
    own_fields = λ c. back (λ i. is_class c i → All (λ f. owners_kept p f i ≡ c) (fields_kept p c i)) (l.own_fields c);
    own_methods = λ c. back (λ i. is_class c i → All (λ m. (method_at p m).class ≡ c) (methods_kept p c i)) (l.own_methods c);
    class_names = λ c. back (λ i. is_class c i → is_class_name (names_kept p c i) ≡ true) (l.class_names c);
    field_names = λ f. back (λ i. is_field f i → (is_unqualified (field_names_kept p f i) ≡ true) × (is_field_descriptor (descriptors_kept p f i) ≡ true)) (l.field_names f);
    method_names = l.method_names;
    arguments = l.arguments;
    root = λ c. back (λ i. is_class c i → above_kept p c i ≡ None → c ≡ object_class) (l.root c);
    top = above_kept p object_class ∙ l.top;
    initialisers = λ c h. some_kept (λ m. IsInitialiser p c m) (λ m. IsInitialiser (quiet p) c m) (initialiser_kept c) (class_at (quiet p) c).initialiser
        (starts_within (λ m. IsInitialiser p c m) c (l.initialisers c (back (sym (is_class c)) h)));
    natives = l.natives;
  }

  found_field : (c f : ℕ) → find_field (quiet p) c (field_at (quiet p) f).name (field_at (quiet p) f).descriptor ≡ find_field p c (field_at p f).name (field_at p f).descriptor
  found_field c f = λ i. find_field_kept p c (field_names_kept p f i) (descriptors_kept p f i) i

  form_found : (x : Instr) → IsFormFound (quiet p) x ≡ IsFormFound p x
  unfolding quiet
  form_found (form.GetField c f) = λ i. found_field c f i ≡ Some f
  form_found (form.PutField c f) = λ i. found_field c f i ≡ Some f
  form_found (form.InvokeVirtual k m) = λ i. (lacks_method k (method_at p m).name ≡ false) × (find_method_kept p (named_class k) (method_at p m).name (method_at p m).descriptor i ≡ Some m)
  form_found (form.InvokeSpecial k m) = λ i. (lacks_method k (method_at p m).name ≡ false) × (find_method_kept p (named_class k) (method_at p m).name (method_at p m).descriptor i ≡ Some m)
  form_found (form.InvokeInterface c m) = λ i. find_method_kept p c (method_at p m).name (method_at p m).descriptor i ≡ Some m
  form_found _ = refl

  members : FindsMembers p → FindsMembers (quiet p)
  unfolding quiet
  members f = record { bodies = λ m h. back (λ i. IfSome (method_at p m).body (λ b. All (λ x. form_found x.form i) b.code)) (f.bodies m h) }

  test_kept : (t : TestEntry) → IsTest p t → IsTest (quiet p) t
  unfolding quiet
  test_kept t s = record {
    given = (s.given.0, back (is_class t.class) s.given.1);
    whole = ap is_bare_of (flags_kept p t.class) ∙ s.whole;
    method = test_method_kept p t.class (method_at p t.method).name ∙ s.method;
    descriptor = s.descriptor;
    code = s.code;
    init = back (λ i. is_static (method_at p t.method).flags ≡ false → IsSome (constructor_kept p t.class i)) s.init;
    word = s.word;
    words = ap (λ (n : List ℕ). list_all (λ u. is_word u || nat_eq u 47) n) (names_kept p t.class) ∙ s.words;
    budget = s.budget;
  }
    where
      is_bare_of : ℕ → Bool
      is_bare_of flags = is_abstract flags || is_interface flags

  pub linked_kept : IsTyped p → Linked (quiet p)
  unfolding quiet
  linked_kept ty = let lk = ty.linked in record {
    builtins = builtins_kept p lk.builtins;
    numbers = names_entries lk.numbers;
    acyclic = λ c a. lk.acyclic c (ancestor_kept a);
    kinds = has_kinds lk.kinds;
    distinct = distinct lk.distinct;
    listed = listed lk.listed;
    bodies = lk.bodies;
    members = members lk.members;
    openings = openings_kept p ty;
    tests = λ k t h. test_kept (get_or p.tests k t) (lk.tests k t h);
    few_classes = let e = class_count p in let h = lk.few_classes in omega arith;
    few_tests = lk.few_tests;
  }
