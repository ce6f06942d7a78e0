-- The suite of one test that only returns is a linked program, so the rules of linked programs can be met.
use Rattle.std.proofs.Common.{◌≡◌, ℕ, zero, suc, ◌<◌, ◌≤◌, List, [], ◌∷◌, length, get_or, Bool, true, false, not, ◌&&◌, nat_eq, nat_lt, is_none, refl, sym, ◌∙◌, ap, subst, inl, inr, arith, Option, Some, None, IfSome, All}
use Rattle.std.specs.{List.list_all, Str.bytes_eq}
use Rattle.std.proofs.lemmas.Bool.{and_parts, and_from, eqb-true, eq-eqb, ltb-true, cases_lt}
use Rattle.jvm_model.specs.declared.program.{ClassRec.ClassRec, Body.Body, Program.Program, Placed.Placed}
use Rattle.jvm_model.specs.declared.instr.Instr.TheVariants as form
use Rattle.jvm_model.specs.{Builtin.object_class, Suite.suite_limit}
use Rattle.jvm_model.specs.Library.{builtin_defs, builtin_classes, builtin_fields, builtin_methods}
use Rattle.jvm_model.specs.Classes.{no_class, class_at, field_at, method_at, class_bound, is_static, default_of, member}
use Rattle.et_base.proofs.Texts.{units_same}
use Rattle.et_base.specs.Names.{is_class_name, is_unqualified, is_method_name, is_field_descriptor, is_method_descriptor, after_class, after_element, after_type, argument, arguments, argument_units}
use Rattle.jvm_model.specs.Linked.{IsClass, IsField, IsMethod, IsGiven, HoldsBuiltins, NamesClass, NamesForm, NamesBody, NamesEntries, IsDirect, IsAncestor, direct, further, IsClassKind, IsFormKind, IsBodyKind, HasKinds, IsDistinct, count, has_room, IsInitialiser, IsListed, IsForm, IsBody, IsFormFound, FindsMembers, opens, HasOpenings, IsTest, Linked}
use Rattle.std.proofs.lemmas.List.{get_or_past}
use Rattle.jvm_model.proofs.{BuiltinRules.all_at, Interfaces.none_listed, Examples.Suites.return_suite}
use Rattle.jvm_model.proofs.Examples.Parts.{body, returns, test}

-- whether a test holds of all numbers below n
abbrev below : ℕ → (ℕ → Bool) → Bool
below zero f = true
below (suc n) f = f n && below n f

holds_at : (n : ℕ) (f : ℕ → Bool) (i : ℕ) → below n f ≡ true → i < n → f i ≡ true
holds_at zero f i e h = absurd (omega arith)
holds_at (suc n) f i e h = elim (cases_lt i n) [
  | inl k ↦ holds_at n f i (and_parts (f n) (below n f) e).1 k
  | inr k ↦ let q : n ≡ i = omega arith in subst (λ (z : ℕ). f z ≡ true) q (and_parts (f n) (below n f) e).0
]

-- whether a test holds of no two different numbers below n
abbrev apart : ℕ → (ℕ → ℕ → Bool) → Bool
apart zero f = true
apart (suc n) f = below n (λ i. not (f n i) && not (f i n)) && apart n f

apart_at : (n : ℕ) (f : ℕ → ℕ → Bool) (i j : ℕ) → apart n f ≡ true → i < n → j < n → f i j ≡ true → i ≡ j
apart_at zero f i j e h k t = absurd (omega arith)
apart_at (suc n) f i j e h k t =
    let q = and_parts (below n (λ x. not (f n x) && not (f x n))) (apart n f) e in
    elim (cases_lt i n) [
      | inl a ↦ elim (cases_lt j n) [
        | inl b ↦ apart_at n f i j q.1 a b t
        | inr b ↦
            let w : n ≡ j = omega arith in
            let u = (and_parts (not (f n i)) (not (f i n)) (holds_at n (λ x. not (f n x) && not (f x n)) i q.0 a)).1 in
            absurd (let z : f i n ≡ true = subst (λ (y : ℕ). f i y ≡ true) (sym w) t in let r : not (f i n) ≡ false = ap not z in cc)
      ]
      | inr a ↦ elim (cases_lt j n) [
        | inl b ↦
            let w : n ≡ i = omega arith in
            let u = (and_parts (not (f n j)) (not (f j n)) (holds_at n (λ x. not (f n x) && not (f x n)) j q.0 b)).0 in
            absurd (let z : f n j ≡ true = subst (λ (y : ℕ). f y j ≡ true) (sym w) t in let r : not (f n j) ≡ false = ap not z in cc)
        | inr b ↦ omega arith
      ]
    ]

abbrev p : Program
p = return_suite

-- the code of its method
abbrev return_code : List Placed
return_code = record { pc = 0; form = form.Return None } ∷ []

sizes : (length p.classes ≡ 33) × (length p.fields ≡ 2) × (length p.methods ≡ 103)
unfolding builtin_classes builtin_fields builtin_methods builtin_defs
sizes = (refl, refl, refl)

builtins : HoldsBuiltins p
unfolding builtin_classes builtin_fields builtin_methods builtin_defs
builtins = record { classes = refl; fields = refl; methods = refl }

-- each number's entries

abbrev opt_below : ℕ → Option ℕ → Bool
opt_below n None = true
opt_below n (Some x) = nat_lt x n

opt_all : (n : ℕ) (o : Option ℕ) → opt_below n o ≡ true → IfSome o (λ x. x < n)
opt_all n None e = tt
opt_all n (Some x) e = ltb-true x n e

all_of : (n : ℕ) (xs : List ℕ) → list_all (λ x. nat_lt x n) xs ≡ true → All (λ x. x < n) xs
all_of n xs e k d g = ltb-true (get_or xs k d) n (all_at (λ x. nat_lt x n) xs k d e g)

abbrev names_rule : ClassRec → Bool
names_rule c = opt_below 33 c.superclass && (list_all (λ x. nat_lt x 33) c.interfaces && (list_all (λ x. nat_lt x 2) c.fields && (list_all (λ x. nat_lt x 103) c.methods && (opt_below 103 c.initialiser && list_all (λ x. nat_lt x 33) c.mentions))))

names_rules : below 33 (λ c. names_rule (class_at p c)) ≡ true
unfolding builtin_classes builtin_defs
names_rules = refl

names_class : (c : ℕ) → IsClass p c → NamesClass p (class_at p c)
names_class c h =
    let s = sizes in
    let x = class_at p c in
    let t = holds_at 33 (λ d. names_rule (class_at p d)) c names_rules (let a = s.0 in omega arith) in
    let a = and_parts (opt_below 33 x.superclass) _ t in
    let b = and_parts (list_all (λ y. nat_lt y 33) x.interfaces) _ a.1 in
    let d = and_parts (list_all (λ y. nat_lt y 2) x.fields) _ b.1 in
    let e = and_parts (list_all (λ y. nat_lt y 103) x.methods) _ d.1 in
    let f = and_parts (opt_below 103 x.initialiser) (list_all (λ y. nat_lt y 33) x.mentions) e.1 in
    record {
      superclass = subst (λ (n : ℕ). IfSome x.superclass (λ y. y < n)) (sym s.0) (opt_all 33 x.superclass a.0);
      interfaces = subst (λ (n : ℕ). All (λ y. y < n) x.interfaces) (sym s.0) (all_of 33 x.interfaces b.0);
      fields = subst (λ (n : ℕ). All (λ y. y < n) x.fields) (sym s.1) (all_of 2 x.fields d.0);
      methods = subst (λ (n : ℕ). All (λ y. y < n) x.methods) (sym s.2) (all_of 103 x.methods e.0);
      initialiser = subst (λ (n : ℕ). IfSome x.initialiser (λ y. y < n)) (sym s.2) (opt_all 103 x.initialiser f.0);
      mentions = subst (λ (n : ℕ). All (λ y. y < n) x.mentions) (sym s.0) (all_of 33 x.mentions f.1);
    }

-- the one body, and that built-in methods have none
bare_rules : below 102 (λ m. is_none (method_at p m).body) ≡ true
unfolding builtin_methods builtin_defs
bare_rules = refl

some_none : {A : Type 0} (P : A → Type 0) (o : Option A) → is_none o ≡ true → IfSome o P
some_none P None e = tt
some_none P (Some x) e = absurd (cc)

each_body : (P : ℕ → Body → Type 0) → IfSome (method_at p 102).body (λ b. P 102 b) → (m : ℕ) → IsMethod p m → IfSome (method_at p m).body (λ b. P m b)
each_body P g m h = elim (cases_lt m 102) [
  | inl k ↦ some_none (P m) (method_at p m).body (holds_at 102 (λ x. is_none (method_at p x).body) m bare_rules k)
  | inr k ↦ let s = sizes in let w : 102 ≡ m = (let a = s.2 in omega arith) in subst (λ (z : ℕ). IfSome (method_at p z).body (λ b. P z b)) w g
]

field_classes : below 2 (λ f. nat_lt (field_at p f).class 33) ≡ true
unfolding builtin_fields builtin_defs
field_classes = refl

method_classes : below 103 (λ m. nat_lt (method_at p m).class 33) ≡ true
unfolding builtin_methods builtin_defs
method_classes = refl

in_fields : (f : ℕ) → IsField p f → f < 2
in_fields f h = let s = sizes in let a = s.1 in omega arith

in_methods : (m : ℕ) → IsMethod p m → m < 103
in_methods m h = let s = sizes in let a = s.2 in omega arith

in_classes : (c : ℕ) → IsClass p c → c < 33
in_classes c h = let s = sizes in let a = s.0 in omega arith

is_class : (c : ℕ) → nat_lt c 33 ≡ true → IsClass p c
is_class c e = let s = sizes in let a = s.0 in let b = ltb-true c 33 e in omega arith

numbers : NamesEntries p
unfolding builtin_methods builtin_defs
numbers = record {
  classes = names_class;
  fields = λ f h. is_class (field_at p f).class (holds_at 2 (λ x. nat_lt (field_at p x).class 33) f field_classes (in_fields f h));
  methods = λ m h. is_class (method_at p m).class (holds_at 103 (λ x. nat_lt (method_at p x).class 33) m method_classes (in_methods m h));
  bodies = λ m h. each_body (λ z b. NamesBody p b) (record { forms = one_form; handlers = λ k d g. absurd (omega arith) }) m h;
  tests = one_test;
}
  where
    one_form : All {X = Placed} (λ x. NamesForm p x.form) return_code
    one_form zero d g = tt
    one_form (suc k) d g = absurd (omega arith)

    one_test : All (λ t. IsClass p t.class × IsMethod p t.method) p.tests
    one_test zero d g = let s = sizes in let a = s.0 in let b = s.2 in (omega arith, omega arith)
    one_test (suc k) d g = absurd (omega arith)

-- superclasses have lower numbers
abbrev lower : ℕ → Option ℕ → Bool
lower c None = true
lower c (Some d) = nat_lt d c

lower_rules : below 33 (λ c. lower c (class_at p c).superclass && nat_eq (length (class_at p c).interfaces) 0) ≡ true
unfolding builtin_classes builtin_defs
lower_rules = refl

direct_lower : (c d : ℕ) → IsClass p c → IsDirect p c d → d < c
direct_lower c d h x =
    let t = and_parts (lower c (class_at p c).superclass) _ (holds_at 33 (λ z. lower z (class_at p z).superclass && nat_eq (length (class_at p z).interfaces) 0) c lower_rules (in_classes c h)) in
    elim x [
      | inl e ↦ ltb-true d c (subst (λ (o : Option ℕ). lower c o ≡ true) e t.0)
      | inr e ↦ absurd (none_listed d (class_at p c).interfaces t.1 e)
    ]

-- beyond the classes nothing is above
past_direct : (c d : ℕ) → (IsClass p c → ⊥) → IsDirect p c d → ⊥
past_direct c d n x =
    let e : class_at p c ≡ no_class = get_or_past p.classes c no_class (omega (arith, not_class c n)) in
    elim x [
      | inl y ↦ let z : None ≡ Some d = ap (λ (r : ClassRec). r.superclass) (sym e) ∙ y in absurd (cc)
      | inr y ↦ let z : false ≡ true = ap (λ (r : ClassRec). member d r.interfaces) (sym e) ∙ y in absurd (cc)
    ]
  where
    not_class : (c : ℕ) → (IsClass p c → ⊥) → length p.classes ≤ c
    not_class c n = elim (cases_lt c (length p.classes)) [ inl h ↦ absurd (n h) | inr h ↦ omega arith ]

rises : (c d : ℕ) → IsDirect p c d → d < c
rises c d x = elim (cases_lt c (length p.classes)) [ inl h ↦ direct_lower c d h x | inr h ↦ absurd (past_direct c d (λ g. omega arith) x) ]

ancestor_lower : {c d : ℕ} → IsAncestor p c d → d < c
ancestor_lower (direct {c} {d} x) = rises c d x
ancestor_lower (further {c} {d} {e} x y) = let a = rises c d x in let b = ancestor_lower y in omega arith

acyclic : (c : ℕ) → IsAncestor p c c → ⊥
acyclic c a = let h = ancestor_lower a in omega arith

-- the one given class
the_class : (c : ℕ) → IsGiven p c → 32 ≡ c
the_class c h = let s = sizes in let a = s.0 in let b = h.0 in let d = h.1 in omega arith

class_kind : IsClassKind p 32
unfolding builtin_classes builtin_defs
class_kind = record { superclass = refl; opened = inr (inl refl); interface = λ e. absurd (let z : false ≡ true = e in cc); interfaces = λ k d g. absurd (omega arith) }

one_kind : All {X = Placed} (λ x. IsFormKind p 32 x.form) return_code
one_kind zero d g = tt
one_kind (suc k) d g = absurd (omega arith)

kinds : HasKinds p
unfolding builtin_methods builtin_defs
kinds = record {
  classes = λ c h. subst (λ (z : ℕ). IsClassKind p z) (the_class c h) class_kind;
  bodies = λ m h. each_body (λ z b. IsBodyKind p (method_at p z).class b) (record { forms = one_kind; handlers = λ k d g. absurd (omega arith) }) m h;
}

-- what has to differ differs
class_apart : apart 33 (λ c d. bytes_eq (class_at p c).name (class_at p d).name) ≡ true
unfolding builtin_classes builtin_defs
class_apart = refl

abbrev same_member : ℕ → ℕ → List ℕ → List ℕ → List ℕ → List ℕ → Bool
same_member c d n k a b = nat_eq c d && (bytes_eq n k && bytes_eq a b)

field_apart : apart 2 (λ f g. same_member (field_at p f).class (field_at p g).class (field_at p f).name (field_at p g).name (field_at p f).descriptor (field_at p g).descriptor) ≡ true
unfolding builtin_fields builtin_defs
field_apart = refl

method_apart : apart 103 (λ m n. same_member (method_at p m).class (method_at p n).class (method_at p m).name (method_at p n).name (method_at p m).descriptor (method_at p n).descriptor) ≡ true
unfolding builtin_methods builtin_defs
method_apart = refl

members_same : (c d : ℕ) (n k a b : List ℕ) → c ≡ d → n ≡ k → a ≡ b → same_member c d n k a b ≡ true
members_same c d n k a b e f g = and_from (nat_eq c d) _ (eq-eqb c d e) (and_from (bytes_eq n k) _ (units_same n k f) (units_same a b g))

distinct : IsDistinct p
distinct = record {
  classes = λ c d h k e. apart_at 33 (λ x y. bytes_eq (class_at p x).name (class_at p y).name) c d class_apart (in_classes c h) (in_classes d k) (units_same _ _ e);
  fields = λ f g h k e i j. apart_at 2 (λ x y. same_member (field_at p x).class (field_at p y).class (field_at p x).name (field_at p y).name (field_at p x).descriptor (field_at p y).descriptor) f g field_apart (in_fields f h) (in_fields g k)
      (members_same _ _ _ _ _ _ e i j);
  methods = λ m n h k e i j. apart_at 103 (λ x y. same_member (method_at p x).class (method_at p y).class (method_at p x).name (method_at p y).name (method_at p x).descriptor (method_at p y).descriptor) m n method_apart (in_methods m h) (in_methods n k)
      (members_same _ _ _ _ _ _ e i j);
  literals = λ i j h k e. absurd (omega arith);
  files = λ i j h k e. absurd (omega arith);
}

-- members are listed by their classes, and names are in their forms
field_listed : below 2 (λ f. nat_eq (count f (class_at p (field_at p f).class).fields) 1 && (is_unqualified (field_at p f).name && is_field_descriptor (field_at p f).descriptor)) ≡ true
unfolding builtin_classes builtin_fields builtin_defs is_class_name is_field_descriptor after_class after_element after_type
field_listed = refl

method_listed : below 103 (λ m. nat_eq (count m (class_at p (method_at p m).class).methods) 1 && (is_method_name (method_at p m).name && is_method_descriptor (method_at p m).descriptor)) ≡ true
unfolding builtin_classes builtin_methods builtin_defs is_class_name is_field_descriptor after_class after_element after_type argument arguments argument_units
method_listed = refl

method_room : below 103 (λ m. has_room (method_at p m).flags (argument_units (method_at p m).descriptor)) ≡ true
unfolding builtin_classes builtin_methods builtin_defs is_class_name is_field_descriptor after_class after_element after_type argument arguments argument_units
method_room = refl

abbrev is_root : ℕ → Option ℕ → Bool
is_root c None = nat_eq c 0
is_root c (Some d) = true

class_listed : below 33 (λ c. is_class_name (class_at p c).name && (is_root c (class_at p c).superclass && (is_none (class_at p c).initialiser &&
    (list_all (λ f. nat_eq (field_at p f).class c) (class_at p c).fields && list_all (λ m. nat_eq (method_at p m).class c) (class_at p c).methods)))) ≡ true
unfolding builtin_classes builtin_fields builtin_methods builtin_defs is_class_name
class_listed = refl

-- what is said of a class
record ListsOwn (c : ℕ) : Type 0 where
  named : is_class_name (class_at p c).name ≡ true
  root : is_root c (class_at p c).superclass ≡ true
  bare : is_none (class_at p c).initialiser ≡ true
  fields : list_all (λ f. nat_eq (field_at p f).class c) (class_at p c).fields ≡ true
  methods : list_all (λ m. nat_eq (method_at p m).class c) (class_at p c).methods ≡ true

lists_own : (c : ℕ) → IsClass p c → ListsOwn c
lists_own c h =
    let t = holds_at 33 (λ d. is_class_name (class_at p d).name && (is_root d (class_at p d).superclass && (is_none (class_at p d).initialiser &&
    (list_all (λ f. nat_eq (field_at p f).class d) (class_at p d).fields && list_all (λ m. nat_eq (method_at p m).class d) (class_at p d).methods)))) c class_listed (in_classes c h) in
    let a = and_parts (is_class_name (class_at p c).name) _ t in
    let b = and_parts (is_root c (class_at p c).superclass) _ a.1 in
    let d = and_parts (is_none (class_at p c).initialiser) _ b.1 in
    let e = and_parts (list_all (λ f. nat_eq (field_at p f).class c) (class_at p c).fields) _ d.1 in
    record { named = a.0; root = b.0; bare = d.0; fields = e.0; methods = e.1 }

root_is : (c : ℕ) (o : Option ℕ) → is_root c o ≡ true → o ≡ None → c ≡ object_class
root_is c None e n = eqb-true c 0 e
root_is c (Some d) e n = absurd (cc)

top_is : (class_at p object_class).superclass ≡ None
unfolding builtin_classes builtin_defs
top_is = refl

given_native : (m : ℕ) → 102 ≡ m → (method_at p m).native ≡ None
unfolding builtin_methods builtin_defs
given_native m e = subst (λ (z : ℕ). (method_at p z).native ≡ None) e refl

builtin_place : below 102 (λ m. nat_lt (method_at p m).class 32) ≡ true
unfolding builtin_methods builtin_defs
builtin_place = refl

listed : IsListed p
listed = record {
  fields = λ f h. eqb-true _ 1 (field_rule f h).0;
  methods = λ m h. eqb-true _ 1 (method_rule m h).0;
  own_fields = λ c h k d g. eqb-true _ c (all_at (λ f. nat_eq (field_at p f).class c) (class_at p c).fields k d (lists_own c h).fields g);
  own_methods = λ c h k d g. eqb-true _ c (all_at (λ m. nat_eq (method_at p m).class c) (class_at p c).methods k d (lists_own c h).methods g);
  class_names = λ c h. (lists_own c h).named;
  field_names = λ f h. and_parts _ _ (field_rule f h).1;
  method_names = λ m h. and_parts _ _ (method_rule m h).1;
  arguments = λ m h. holds_at 103 (λ x. has_room (method_at p x).flags (argument_units (method_at p x).descriptor)) m method_room (in_methods m h);
  root = λ c h e. root_is c (class_at p c).superclass (lists_own c h).root e;
  top = top_is;
  initialisers = λ c h. some_none (λ m. IsInitialiser p c m) (class_at p c).initialiser (lists_own c h).bare;
  natives = λ m h g. elim (cases_lt m 102) [
    | inl k ↦ absurd (let q = ltb-true (method_at p m).class 32 (holds_at 102 (λ x. nat_lt (method_at p x).class 32) m builtin_place k) in omega arith)
    | inr k ↦ given_native m (let a = in_methods m h in omega arith)
  ];
}
  where
    field_rule : (f : ℕ) → IsField p f → (nat_eq (count f (class_at p (field_at p f).class).fields) 1 ≡ true) × ((is_unqualified (field_at p f).name && is_field_descriptor (field_at p f).descriptor) ≡ true)
    field_rule f h = and_parts _ _ (holds_at 2 (λ x. nat_eq (count x (class_at p (field_at p x).class).fields) 1 && (is_unqualified (field_at p x).name && is_field_descriptor (field_at p x).descriptor)) f field_listed (in_fields f h))

    method_rule : (m : ℕ) → IsMethod p m → (nat_eq (count m (class_at p (method_at p m).class).methods) 1 ≡ true) × ((is_method_name (method_at p m).name && is_method_descriptor (method_at p m).descriptor) ≡ true)
    method_rule m h = and_parts _ _ (holds_at 103 (λ x. nat_eq (count x (class_at p (method_at p x).class).methods) 1 && (is_method_name (method_at p x).name && is_method_descriptor (method_at p x).descriptor)) m method_listed (in_methods m h))

-- its method's code
the_body : IfSome (method_at p 102).body (λ b. IsBody b)
unfolding builtin_methods builtin_defs
the_body = record {
  some = omega arith;
  first = refl;
  ascending = (omega arith, tt);
  within = one_within;
  short = omega arith;
  forms = one_form (body 0 0 (returns ∷ []));
  handlers = λ k d g. absurd (omega arith);
}
  where
    one_within : All {X = Placed} (λ x. x.pc < 1) return_code
    one_within zero d g = omega arith
    one_within (suc k) d g = absurd (omega arith)

    one_form : (b : Body) → All {X = Placed} (λ x. IsForm b x.form) return_code
    one_form b zero d g = tt
    one_form b (suc k) d g = absurd (omega arith)

one_found : All {X = Placed} (λ x. IsFormFound p x.form) return_code
one_found zero d g = tt
one_found (suc k) d g = absurd (omega arith)

members : FindsMembers p
unfolding builtin_methods builtin_defs
members = record { bodies = λ m h. each_body (λ z b. All (λ x. IsFormFound p x.form) b.code) one_found m h }

-- opening values
field_opens : below 2 (λ f. opens p (field_at p f).descriptor (field_at p f).opening) ≡ true
unfolding builtin_classes builtin_fields builtin_defs
field_opens = refl

out_static : is_static (field_at p 0).flags ≡ false → ⊥
unfolding builtin_fields builtin_defs
out_static e = let z : true ≡ false = e in absurd (cc)

message_default : (field_at p 1).opening ≡ default_of (field_at p 1).descriptor
unfolding builtin_fields builtin_defs
message_default = refl

openings : HasOpenings p
openings = record {
  values = λ f h. holds_at 2 (λ x. opens p (field_at p x).descriptor (field_at p x).opening) f field_opens (in_fields f h);
  defaults = λ f h e. elim (cases_lt f 1) [
    | inl k ↦ absurd (let q : 0 ≡ f = omega arith in out_static (subst (λ (z : ℕ). is_static (field_at p z).flags ≡ false) (sym q) e))
    | inr k ↦ let q : 1 ≡ f = (let a = in_fields f h in omega arith) in subst (λ (z : ℕ). (field_at p z).opening ≡ default_of (field_at p z).descriptor) q message_default
  ];
}

-- the test
is_test : IsTest p (test 32 102)
unfolding builtin_classes builtin_methods builtin_defs class_bound suite_limit
is_test = record {
  given = (omega arith, omega arith);
  whole = refl;
  method = refl;
  descriptor = refl;
  code = refl;
  init = λ e. absurd (let z : true ≡ false = e in cc);
  word = refl;
  words = refl;
  budget = (omega arith, omega arith);
}

tests : All (λ t. IsTest p t) p.tests
tests zero d g = is_test
tests (suc k) d g = absurd (omega arith)

-- the suite is a linked program
pub return_linked : Linked p
return_linked = record {
  builtins = builtins;
  numbers = numbers;
  acyclic = acyclic;
  kinds = kinds;
  distinct = distinct;
  listed = listed;
  bodies = λ m h. each_body (λ z b. IsBody b) the_body m h;
  members = members;
  openings = openings;
  tests = tests;
  few_classes = let s = sizes in let a = s.0 in omega arith;
  few_tests = omega arith;
}
