-- A member that a look-up finds is one of the program, and has the name and descriptor that were asked for; a static method of
-- an interface is found from an interface alone.
use Rattle.std.proofs.Common.{◌≡◌, ℕ, ◌≤◌, List, [], ◌∷◌, length, filter, Bool, true, not, ◌&&◌, sym, ◌∙◌, subst, inl, inr, Option, Some, None, All, zero, suc, ◌<◌, false, nat_lt, refl, ap, IfSome}
use Rattle.std.specs.Prelude.{find, flat_map}
use Rattle.std.proofs.lemmas.Bool.{cases_Bool, cases_lt, and_parts, cond-true, cond-false, not-true, ltb-true}
use Rattle.std.proofs.lemmas.List.{get_or_past}
use Rattle.std.proofs.lemmas.List.Elements.{All-nil, All-head, All-tail, All-filter, filter_passes, All-cons, All-append, All-weaker}
use Rattle.jvm_model.specs.declared.program.{Program.Program, ClassRec.ClassRec}
use Rattle.std.specs.{Str.bytes_eq, List.list_all}
use Rattle.jvm_model.specs.{Builtin.object_class, Builtin.builtin_count, Selection.kept_of, Selection.has_code, Library.builtin_defs, Library.builtin_classes}
use Rattle.jvm_model.specs.Classes.{class_at, field_at, method_at, no_class, is_private, is_static, is_interface, upwards, first_mentions, init_name, class_bound, upwards_in}
use Rattle.jvm_model.specs.Lookup.{is_field, is_method, field_path, find_field, superinterfaces, interface_methods, one_or_first, find_in_interfaces, or_else, find_declared, find_in_object, find_method}
use Rattle.jvm_model.specs.Linked.{IsClass, IsField, IsMethod, NamesClass, IsFound, IsFoundField, IsGiven, HoldsBuiltins, is_interface_at, IsClassKind}
use Rattle.jvm_model.proofs.{Options.or_else_cases, BuiltinRules.class_keeps}
use Rattle.et_base.proofs.Texts.{units_true}
use Rattle.class_link.proofs.Numbered.{all_flat, all_mentions}

-- what is found passes the test, and is so if each item is
pub found : (Q : ℕ → Type 0) (test : ℕ → Bool) (xs : List ℕ) (n : ℕ) → All Q xs → find test xs ≡ Some n → Q n × (test n ≡ true)
found Q test [] n h e = absurd (cc)
found Q test (x ∷ xs) n h e = elim (cases_Bool (test x)) [
  | inl t ↦ let q : Some x ≡ Some n = sym (cond-true (test x) (Some x) (find test xs) t) ∙ e in let k : x ≡ n = cc in subst (λ y. Q y × (test y ≡ true)) k (All-head Q x xs h, t)
  | inr f ↦ found Q test xs n (All-tail Q x xs h) (sym (cond-false (test x) (Some x) (find test xs) f) ∙ e)
]

pub one_of : (Q : ℕ → Type 0) (xs ys : List ℕ) (n : ℕ) → All Q xs → All Q ys → one_or_first xs ys ≡ Some n → Q n
one_of Q [] [] n h g e = absurd (cc)
one_of Q [] (y ∷ ys) n h g e = let k : y ≡ n = cc in subst Q k (All-head Q y ys g)
one_of Q (x ∷ []) ys n h g e = let k : x ≡ n = cc in subst Q k (All-head Q x [] h)
one_of Q (x ∷ z ∷ xs) [] n h g e = absurd (cc)
one_of Q (x ∷ z ∷ xs) (y ∷ ys) n h g e = let k : y ≡ n = cc in subst Q k (All-head Q y ys g)

module _ (p : Program) (numbered : (c : ℕ) → IsClass p c → NamesClass p (class_at p c)) where
  pub nothing_past : (c : ℕ) → length p.classes ≤ c → class_at p c ≡ no_class
  nothing_past c h = get_or_past p.classes c no_class h

  listed_fields : (c : ℕ) → All (λ f. IsField p f) (class_at p c).fields
  listed_fields c = elim (cases_lt c (length p.classes)) [
    | inl h ↦ (numbered c h).fields
    | inr h ↦ subst (λ (r : ClassRec). All (λ f. IsField p f) r.fields) (sym (nothing_past c h)) (All-nil (λ f. IsField p f))
  ]

  listed_methods : (c : ℕ) → All (λ m. IsMethod p m) (class_at p c).methods
  listed_methods c = elim (cases_lt c (length p.classes)) [
    | inl h ↦ (numbered c h).methods
    | inr h ↦ subst (λ (r : ClassRec). All (λ m. IsMethod p m) r.methods) (sym (nothing_past c h)) (All-nil (λ m. IsMethod p m))
  ]

  -- ---- fields

  field_found : (c : ℕ) (name descriptor : List ℕ) (f : ℕ) → find_field p c name descriptor ≡ Some f → IsField p f × (is_field p name descriptor f ≡ true)
  unfolding find_field
  field_found c name descriptor f e = found (λ n. IsField p n) (λ n. is_field p name descriptor n) _ f (all_flat (λ n. IsField p n) (λ d. (class_at p d).fields) (field_path p c) listed_fields) e

  -- the look-up of the field that was found finds it again
  pub field_again : (c : ℕ) (name descriptor : List ℕ) (f : ℕ) → find_field p c name descriptor ≡ Some f → IsField p f × IsFoundField p c f
  field_again c name descriptor f e =
      let q = field_found c name descriptor f e in
      let b = and_parts (bytes_eq (field_at p f).name name) (bytes_eq (field_at p f).descriptor descriptor) q.1 in
      let x = units_true (field_at p f).name name b.0 in
      let y = units_true (field_at p f).descriptor descriptor b.1 in
      (q.0, rw (x, y) e)

  -- ---- methods

  -- a method of this name and descriptor
  abbrev Named : List ℕ → List ℕ → ℕ → Type 0
  Named name descriptor m = IsMethod p m × (is_method p name descriptor m ≡ true)

  declared_found : (name descriptor : List ℕ) (cs : List ℕ) (m : ℕ) → find_declared p name descriptor cs ≡ Some m → Named name descriptor m
  declared_found name descriptor cs m e = found (λ n. IsMethod p n) (λ n. is_method p name descriptor n) _ m (all_flat (λ n. IsMethod p n) (λ d. (class_at p d).methods) cs listed_methods) e

  object_found : (name descriptor : List ℕ) (m : ℕ) → find_in_object p name descriptor ≡ Some m → Named name descriptor m
  object_found name descriptor m e =
      let q = found (λ n. IsMethod p n) (λ n. is_method p name descriptor n && not (is_static (method_at p n).flags)) (class_at p object_class).methods m (listed_methods object_class) e in
      (q.0, (and_parts (is_method p name descriptor m) _ q.1).0)

  interfaces_named : (c : ℕ) (name descriptor : List ℕ) → All (Named name descriptor) (interface_methods p c name descriptor)
  interfaces_named c name descriptor =
      let test : ℕ → Bool = λ n. is_method p name descriptor n && (not (is_private (method_at p n).flags) && not (is_static (method_at p n).flags)) in
      let all = flat_map (λ i. (class_at p i).methods) (superinterfaces p c) in
      let a : All (λ n. IsMethod p n) (filter test all) = All-filter test (λ n. IsMethod p n) all (all_flat (λ n. IsMethod p n) (λ i. (class_at p i).methods) (superinterfaces p c) listed_methods) in
      let b : All (λ n. test n ≡ true) (filter test all) = filter_passes test all in
      λ k d h. (a k d h, (and_parts _ _ (b k d h)).0)

  interfaces_found : (c : ℕ) (name descriptor : List ℕ) (m : ℕ) → find_in_interfaces p c name descriptor ≡ Some m → Named name descriptor m
  unfolding find_in_interfaces
  interfaces_found c name descriptor m e =
      let ms = interface_methods p c name descriptor in
      let a = interfaces_named c name descriptor in
      let b : All (Named name descriptor) (kept_of p ms) = All-filter _ (Named name descriptor) ms a in
      let d : All (Named name descriptor) (filter (λ n. has_code p n) (kept_of p ms)) = All-filter (λ n. has_code p n) (Named name descriptor) (kept_of p ms) b in
      one_of (Named name descriptor) (first_mentions (filter (λ n. has_code p n) (kept_of p ms))) ms m (all_mentions (Named name descriptor) _ d) a e

  in_either : (name descriptor : List ℕ) (c m : ℕ) (cs : List ℕ) → or_else (find_declared p name descriptor cs) (find_in_interfaces p c name descriptor) ≡ Some m → Named name descriptor m
  in_either name descriptor c m cs e = elim (or_else_cases _ _ m e) [
    | inl q ↦ declared_found name descriptor cs m q
    | inr q ↦ interfaces_found c name descriptor m q
  ]

  method_found : (c : ℕ) (name descriptor : List ℕ) (m : ℕ) → find_method p c name descriptor ≡ Some m → Named name descriptor m
  unfolding find_method
  method_found c name descriptor m e = elim (cases_Bool (bytes_eq name init_name)) [
    | inl t ↦ declared_found name descriptor (c ∷ []) m (rw t at e)
    | inr t ↦ elim (cases_Bool (is_interface (class_at p c).flags)) [
      | inl i ↦ elim (or_else_cases _ _ m (rw (t, i) at e)) [
        | inl q ↦ declared_found name descriptor (c ∷ []) m q
        | inr q ↦ elim (or_else_cases _ _ m q) [
          | inl z ↦ object_found name descriptor m z
          | inr z ↦ interfaces_found c name descriptor m z
        ]
      ]
      | inr i ↦ in_either name descriptor c m (upwards p c) (rw (t, i) at e)
    ]
  ]

  -- the look-up of the method that was found finds it again
  pub method_again : (c : ℕ) (name descriptor : List ℕ) (m : ℕ) → find_method p c name descriptor ≡ Some m → IsMethod p m × IsFound p c m × ((method_at p m).name ≡ name)
  method_again c name descriptor m e =
      let q = method_found c name descriptor m e in
      let b = and_parts (bytes_eq (method_at p m).name name) (bytes_eq (method_at p m).descriptor descriptor) q.1 in
      let x = units_true (method_at p m).name name b.0 in
      let y = units_true (method_at p m).descriptor descriptor b.1 in
      (q.0, rw (x, y) e, x)

  -- a declared method has the name and descriptor
  pub declared_named : (name descriptor : List ℕ) (cs : List ℕ) (m : ℕ) → find_declared p name descriptor cs ≡ Some m → IsMethod p m × ((method_at p m).name ≡ name) × ((method_at p m).descriptor ≡ descriptor)
  declared_named name descriptor cs m e =
      let q = declared_found name descriptor cs m e in
      let b = and_parts (bytes_eq (method_at p m).name name) _ q.1 in
      (q.0, units_true _ _ b.0, units_true _ _ b.1)

-- ---- the built-in classes are no interfaces, and neither are those above them

super_within : Option ℕ → Bool
super_within None = true
super_within (Some d) = nat_lt d builtin_count

abbrev plain_class : ClassRec → Bool
plain_class c = not (is_interface c.flags) && super_within c.superclass

plain_classes : list_all plain_class builtin_classes ≡ true
unfolding builtin_classes builtin_defs super_within
plain_classes = refl

within_some : (o : Option ℕ) (d : ℕ) → super_within o ≡ true → o ≡ Some d → d < builtin_count
unfolding super_within
within_some None d h e = absurd (cc)
within_some (Some x) d h e = let k : x ≡ d = cc in subst (λ n. n < builtin_count) k (ltb-true x builtin_count h)

-- what holds of each item made of each
all_flat_of : (P Q : ℕ → Type 0) (f : ℕ → List ℕ) (xs : List ℕ) → All P xs → ((x : ℕ) → P x → All Q (f x)) → All Q (flat_map f xs)
all_flat_of P Q f [] h g = All-nil Q
all_flat_of P Q f (x ∷ xs) h g = All-append Q (f x) (flat_map f xs) (g x (All-head P x xs h)) (all_flat_of P Q f xs (All-tail P x xs h) g)

module _ (p : Program) (holds : HoldsBuiltins p) (kinds : (c : ℕ) → IsGiven p c → IsClassKind p c) (owned : (c : ℕ) → IsClass p c → All (λ m. (method_at p m).class ≡ c) (class_at p c).methods) where
  super_plain : (c d : ℕ) → (class_at p c).superclass ≡ Some d → is_interface_at p d ≡ false
  super_plain c d e = elim (cases_lt c builtin_count) [
    | inl l ↦
        let a = and_parts (not (is_interface (class_at p c).flags)) _ (class_keeps p holds plain_class plain_classes c l) in
        let w = within_some (class_at p c).superclass d a.1 e in
        not-true _ (and_parts (not (is_interface (class_at p d).flags)) _ (class_keeps p holds plain_class plain_classes d w)).0
    | inr g ↦ elim (cases_lt c (length p.classes)) [
      | inl l ↦ subst (λ o. IfSome o (λ n. is_interface_at p n ≡ false)) e (kinds c (g, l)).superclass
      | inr l ↦ absurd (let z : (class_at p c).superclass ≡ None = ap (λ (r : ClassRec). r.superclass) (get_or_past p.classes c no_class l) in cc)
    ]
  ]

  abbrev Plain : ℕ → Type 0
  Plain d = is_interface_at p d ≡ false

  above_plain : (k : ℕ) (o : Option ℕ) → ((d : ℕ) → o ≡ Some d → All Plain (upwards_in p k d)) → All Plain (elim o as (λ z. List ℕ) [ None ↦ [] | Some d ↦ upwards_in p k d ])
  above_plain k None f = All-nil Plain
  above_plain k (Some d) f = f d refl

  upwards_plain : (k c : ℕ) → Plain c → All Plain (upwards_in p k c)
  upwards_plain zero c h = All-nil Plain
  upwards_plain (suc k) c h = All-cons Plain c _ h (above_plain k (class_at p c).superclass (λ d e. upwards_plain k d (super_plain c d e)))

  methods_owned : (c : ℕ) → All (λ m. (method_at p m).class ≡ c) (class_at p c).methods
  methods_owned c = elim (cases_lt c (length p.classes)) [
    | inl l ↦ owned c l
    | inr l ↦ subst (λ (r : ClassRec). All (λ m. (method_at p m).class ≡ c) r.methods) (sym (get_or_past p.classes c no_class l)) (All-nil (λ m. (method_at p m).class ≡ c))
  ]

  -- where only a class is asked, it is the owner
  own_declared : (name descriptor : List ℕ) (c m : ℕ) → find_declared p name descriptor (c ∷ []) ≡ Some m → (method_at p m).class ≡ c
  own_declared name descriptor c m e = (found (λ n. (method_at p n).class ≡ c) (λ n. is_method p name descriptor n) _ m (All-append (λ n. (method_at p n).class ≡ c) (class_at p c).methods [] (methods_owned c) (All-nil (λ n. (method_at p n).class ≡ c))) e).0

  -- of classes that are no interfaces, the owner is none
  plain_declared : (name descriptor : List ℕ) (cs : List ℕ) (m : ℕ) → All Plain cs → find_declared p name descriptor cs ≡ Some m → Plain (method_at p m).class
  plain_declared name descriptor cs m h e = (found (λ n. Plain (method_at p n).class) (λ n. is_method p name descriptor n) _ m
      (all_flat_of Plain (λ n. Plain (method_at p n).class) (λ d. (class_at p d).methods) cs h (λ d q. All-weaker (λ n. (method_at p n).class ≡ d) (λ n. Plain (method_at p n).class) (λ n z. subst Plain (sym z) q) (class_at p d).methods (methods_owned d))) e).0

  abbrev Dynamic : ℕ → Type 0
  Dynamic n = is_static (method_at p n).flags ≡ false

  interfaces_dynamic : (c : ℕ) (name descriptor : List ℕ) (m : ℕ) → find_in_interfaces p c name descriptor ≡ Some m → Dynamic m
  unfolding find_in_interfaces
  interfaces_dynamic c name descriptor m e =
      let test : ℕ → Bool = λ n. is_method p name descriptor n && (not (is_private (method_at p n).flags) && not (is_static (method_at p n).flags)) in
      let ms = interface_methods p c name descriptor in
      let b : All (λ n. test n ≡ true) ms = filter_passes test (flat_map (λ i. (class_at p i).methods) (superinterfaces p c)) in
      let a : All Dynamic ms = All-weaker (λ n. test n ≡ true) Dynamic (λ n h. not-true _ (and_parts (not (is_private (method_at p n).flags)) _ (and_parts (is_method p name descriptor n) _ h).1).1) ms b in
      let k : All Dynamic (kept_of p ms) = All-filter _ Dynamic ms a in
      let d : All Dynamic (filter (λ n. has_code p n) (kept_of p ms)) = All-filter (λ n. has_code p n) Dynamic (kept_of p ms) k in
      one_of Dynamic (first_mentions (filter (λ n. has_code p n) (kept_of p ms))) ms m (all_mentions Dynamic _ d) a e

  not_both : {X : Type 0} (b : Bool) → b ≡ true → b ≡ false → X
  not_both b t f = absurd (cc)

  pub static_owner : (c : ℕ) (name descriptor : List ℕ) (m : ℕ) → find_method p c name descriptor ≡ Some m → is_static (method_at p m).flags ≡ true → is_interface_at p (method_at p m).class ≡ true → is_interface_at p c ≡ true
  unfolding find_method
  static_owner c name descriptor m e s i = elim (cases_Bool (bytes_eq name init_name)) [
    | inl t ↦ subst (λ n. is_interface_at p n ≡ true) (own_declared name descriptor c m (rw t at e)) i
    | inr t ↦ elim (cases_Bool (is_interface (class_at p c).flags)) [
      | inl l ↦ l
      | inr l ↦ elim (or_else_cases _ _ m (rw (t, l) at e)) [
        | inl q ↦ not_both _ i (plain_declared name descriptor (upwards p c) m (upwards_plain class_bound c l) q)
        | inr q ↦ not_both _ s (interfaces_dynamic c name descriptor m q)
      ]
    ]
  ]
