-- What a selected method is: it has the name and descriptor of the one that a call names, and the receiver is an instance of
-- its class. Where none is selected, a throwable is thrown.
use Rattle.std.proofs.Common.{◌≡◌, ℕ, zero, suc, List, [], ◌∷◌, ◌++◌, length, filter, Bool, true, false, not, ◌&&◌, ◌||◌, cond, nat_eq, Option, Some, None, refl, sym, ◌∙◌, ap, subst, arith, inl, inr, All}
use Rattle.std.specs.Prelude.{flat_map}
use Rattle.std.specs.{List.find, List.list_any, List.list_all, Str.bytes_eq}
use Rattle.std.proofs.lemmas.Bool.{cases_lt, and_parts, or_cases, or_left, or_right, eqb-true, eq-eqb, not-true}
use Rattle.jvm_model.specs.declared.{values.Kind.Kind, program.Program.Program, program.ClassRec.ClassRec}
use Rattle.jvm_model.specs.declared.values.Kind.TheVariants as kind
use Rattle.jvm_model.specs.{Builtin.object_class, Builtin.abstract_method_error, Builtin.class_change_error, Builtin.builtin_count, Library.builtin_defs, Library.builtin_classes, Kinds.class_of}
use Rattle.jvm_model.specs.Classes.{class_at, method_at, no_class, member, is_static, is_private, is_interface, is_below, upwards, class_bound, lineage_in, own_interfaces, implements, init_name}
use Rattle.jvm_model.specs.Lookup.{is_method, find_method, find_declared, find_in_object, find_in_interfaces, interface_methods, superinterfaces, pedigree_in, one_or_first, or_else}
use Rattle.jvm_model.specs.Selection.{Selected, chosen, failing, is_like, is_open_like, declared_in, all_interfaces, candidates, kept_of, has_code, one_with_code, kept_method, or_kept, select, select_virtual, select_interface, named_class, above_or, special_start, special_path, select_special}
use Rattle.jvm_model.specs.Linked.{Linked, IsClass, IsMethod, IsKind, IsPlainMethod, IsFound, IsFoundIn, is_interface_at}
use Rattle.std.proofs.lemmas.{List.get_or_past, List.Folds.list_any-append, Map.Views.any-filter_same}
use Rattle.jvm_model.proofs.Interfaces.{member_first, none_listed, member-flat_map, member-first_mentions, reached}
use Rattle.jvm_model.proofs.{Options.or_else_cases, BuiltinRules.class_keeps}
use Rattle.jvm_model.proofs.Upwards.{superclass_is, member_class, upwards_step, below_same}
use Rattle.type_frames.specs.{declared.vtype.VType.TheVariants.Object, Descriptors.name_of, Descriptors.kind_name, Assign.assignable, TypedState.IsInstance}
use Rattle.et_base.proofs.Texts.{units_true}
use Rattle.type_frames.proofs.AssignLaws.{assignable_trans}
use Rattle.check_sound.proofs.{Ready.IsThrown, Thrown.builtin_is, Thrown.thrown}
use Rattle.check_sound.proofs.Instances.{takes_all, instance_itself, below_instance}

-- a method that may run where the method m is called on an instance
pub record IsSelected (p : Program) (m n : ℕ) : Type 0 where
  pub method : IsMethod p n
  pub name : (method_at p n).name ≡ (method_at p m).name
  pub descriptor : (method_at p n).descriptor ≡ (method_at p m).descriptor
  pub plain : is_static (method_at p n).flags ≡ false

abbrev pub SelectedOf : Program → ℕ → Kind → Selected → Type 0
SelectedOf p m x (chosen n) = IsSelected p m n × IsInstance p x (name_of p (method_at p n).class)
SelectedOf p m x (failing c) = IsThrown p c

-- ---- lists

pub any_some : (g : ℕ → Bool) (xs : List ℕ) → list_any g xs ≡ true → (x : ℕ) × (member x xs ≡ true) × (g x ≡ true)
any_some g [] h = absurd cc
any_some g (x ∷ xs) h = elim (or_cases (g x) (list_any g xs) h) [
  | inl e ↦ (x, or_left (nat_eq x x) (member x xs) (eq-eqb x x refl), e)
  | inr e ↦ let q = any_some g xs e in (q.0, or_right (nat_eq q.0 x) (member q.0 xs) q.1, q.2)
]

pub all_member : (P : ℕ → Type 0) (xs : List ℕ) (n : ℕ) → All P xs → member n xs ≡ true → P n
all_member P [] n a m = absurd cc
all_member P (x ∷ xs) n a m = elim (or_cases (nat_eq n x) (member n xs) m) [
  | inl e ↦ subst P (sym (eqb-true n x e)) (a 0 x (omega arith))
  | inr e ↦ all_member P xs n (λ k d g. a (suc k) d (omega arith)) e
]

-- what is found passes, and is of the list
pub record Found (f : ℕ → Bool) (xs : List ℕ) (n : ℕ) : Type 0 where
  pub passes : f n ≡ true
  pub listed : member n xs ≡ true

found_by : (f : ℕ → Bool) (x n : ℕ) (xs : List ℕ) (b : Bool) → f x ≡ b → (find f xs ≡ Some n → Found f xs n) → cond b (Some x) (find f xs) ≡ Some n → Found f (x ∷ xs) n
found_by f x n xs true q ih e =
    let is : x ≡ n = cc in
    record { passes = subst (λ (y : ℕ). f y ≡ true) is q; listed = or_left (nat_eq n x) (member n xs) (eq-eqb n x (sym is)) }
found_by f x n xs false q ih e = let r = ih e in record { passes = r.passes; listed = or_right (nat_eq n x) (member n xs) r.listed }

pub found : (f : ℕ → Bool) (xs : List ℕ) (n : ℕ) → find f xs ≡ Some n → Found f xs n
found f [] n e = absurd cc
found f (x ∷ xs) n e = found_by f x n xs (f x) refl (found f xs n) e

pub filtered : (f : ℕ → Bool) (xs : List ℕ) (n : ℕ) → member n (filter f xs) ≡ true → Found f xs n
filtered f xs n e = let r = and_parts (f n) (member n xs) (sym (any-filter_same (nat_eq n) f (f n) (λ k q. ap f (sym (eqb-true n k q))) xs) ∙ e) in record { passes = r.0; listed = r.1 }

module _ (p : Program) (lk : Linked p) where
  -- ---- methods and their classes

  -- the class declares the method
  pub record Declares (c n : ℕ) : Type 0 where
    pub is_class : IsClass p c
    pub method : IsMethod p n
    pub own : (method_at p n).class ≡ c

  pub declares : (c n : ℕ) → member n (class_at p c).methods ≡ true → Declares c n
  declares c n m = elim (cases_lt c (length p.classes)) [
    | inl h ↦ record {
      is_class = h;
      method = all_member (λ k. IsMethod p k) (class_at p c).methods n (lk.numbers.classes c h).methods m;
      own = all_member (λ k. (method_at p k).class ≡ c) (class_at p c).methods n (lk.listed.own_methods c h) m;
    }
    | inr h ↦ absurd (let q : true ≡ false = sym m ∙ ap (λ (x : ClassRec). member n x.methods) (get_or_past p.classes c no_class h) in cc)
  ]

  -- a method of one of these classes
  pub record OfClasses (cs : List ℕ) (n : ℕ) : Type 0 where
    pub class : ℕ
    pub listed : member class cs ≡ true
    pub declared : Declares class n

  pub of_classes : (cs : List ℕ) (n : ℕ) → member n (flat_map (λ c. (class_at p c).methods) cs) ≡ true → OfClasses cs n
  of_classes cs n m =
      let q = any_some (λ c. member n (class_at p c).methods) cs (sym (member-flat_map n (λ c. (class_at p c).methods) cs) ∙ m) in
      record { class = q.0; listed = q.1; declared = declares q.0 n q.2 }

  -- ---- interfaces

  no_interfaces : list_all (λ (x : ClassRec). nat_eq (length x.interfaces) 0) builtin_classes ≡ true
  unfolding builtin_classes builtin_defs
  no_interfaces = refl

  -- an interface of the program
  pub record IsInterface (i : ℕ) : Type 0 where
    pub is_class : IsClass p i
    pub interface : is_interface_at p i ≡ true

  -- what stands among a class's interfaces is one
  pub direct : (c i : ℕ) → member i (class_at p c).interfaces ≡ true → IsInterface i
  direct c i m = elim (cases_lt c (length p.classes)) [
    | inl h ↦ elim (cases_lt c builtin_count) [
      | inl b ↦ absurd (none_listed i (class_at p c).interfaces (class_keeps p lk.builtins (λ x. nat_eq (length x.interfaces) 0) no_interfaces c b) m)
      | inr b ↦ record {
        is_class = all_member (λ k. IsClass p k) (class_at p c).interfaces i (lk.numbers.classes c h).interfaces m;
        interface = all_member (λ k. is_interface_at p k ≡ true) (class_at p c).interfaces i (lk.kinds.classes c (b, h)).interfaces m;
      }
    ]
    | inr h ↦ absurd (let q : true ≡ false = sym m ∙ ap (λ (x : ClassRec). member i x.interfaces) (get_or_past p.classes c no_class h) in cc)
  ]

  lineage : (k j i : ℕ) → IsInterface j → member i (lineage_in p k j) ≡ true → IsInterface i
  lineage zero j i h m = absurd cc
  lineage (suc k) j i h m = elim (or_cases (member i (flat_map (λ c. lineage_in p k c) (class_at p j).interfaces)) (member i (j ∷ [])) (sym (split (flat_map (λ c. lineage_in p k c) (class_at p j).interfaces)) ∙ m)) [
    | inl e ↦ (let q = any_some (λ c. member i (lineage_in p k c)) (class_at p j).interfaces (sym (member-flat_map i (λ c. lineage_in p k c) (class_at p j).interfaces) ∙ e) in lineage k q.0 i (direct j q.0 q.1) q.2)
    | inr e ↦ elim (or_cases (nat_eq i j) false e) [ inl r ↦ subst IsInterface (sym (eqb-true i j r)) h | inr r ↦ absurd cc ]
  ]
    where
      split : (xs : List ℕ) → member i (xs ++ (j ∷ [])) ≡ (member i xs || member i (j ∷ []))
      split xs = list_any-append (nat_eq i) xs (j ∷ [])

  pub own : (c i : ℕ) → member i (own_interfaces p c) ≡ true → IsInterface i
  own c i m = let q = any_some (λ j. member i (lineage_in p class_bound j)) (class_at p c).interfaces (sym (reached p i c) ∙ m) in lineage class_bound q.0 i (direct c q.0 q.1) q.2

  of_all : (c i : ℕ) → member i (all_interfaces p c) ≡ true → IsInterface i
  of_all c i m =
      let q = any_some (λ d. member i (own_interfaces p d)) (upwards p c) (sym (member-flat_map i (λ d. own_interfaces p d) (upwards p c)) ∙ (sym (member-first_mentions i _) ∙ m)) in
      own q.0 i q.2

  pedigree : (k j i : ℕ) → IsInterface j → member i (pedigree_in p k j) ≡ true → IsInterface i
  pedigree zero j i h m = absurd cc
  pedigree (suc k) j i h m = elim (or_cases (nat_eq i j) (member i (flat_map (λ c. pedigree_in p k c) (class_at p j).interfaces)) m) [
    | inl e ↦ subst IsInterface (sym (eqb-true i j e)) h
    | inr e ↦ (let q = any_some (λ c. member i (pedigree_in p k c)) (class_at p j).interfaces (sym (member-flat_map i (λ c. pedigree_in p k c) (class_at p j).interfaces) ∙ e) in pedigree k q.0 i (direct j q.0 q.1) q.2)
  ]

  of_super : (c i : ℕ) → member i (superinterfaces p c) ≡ true → IsInterface i
  unfolding superinterfaces
  of_super c i m =
      let q = any_some (λ d. member i (flat_map (λ j. pedigree_in p class_bound j) (class_at p d).interfaces)) (upwards p c) (sym (member-flat_map i (λ d. flat_map (λ j. pedigree_in p class_bound j) (class_at p d).interfaces) (upwards p c)) ∙ m) in
      let r = any_some (λ j. member i (pedigree_in p class_bound j)) (class_at p q.0).interfaces (sym (member-flat_map i (λ j. pedigree_in p class_bound j) (class_at p q.0).interfaces) ∙ q.2) in
      pedigree class_bound r.0 i (direct q.0 r.0 r.1) r.2

  -- ---- instances

  instance_fits : (x : Kind) (a b : List ℕ) → IsInstance p x a → assignable p (Object a) (Object b) ≡ true → IsInstance p x b
  instance_fits x a b h g = assignable_trans p lk (Object (kind_name p x)) (Object a) (Object b) h g

  of_object : (x : Kind) → IsInstance p x (name_of p object_class)
  of_object x = takes_all p lk object_class (builtin_is p lk object_class (omega arith)) refl x

  of_interface : (i : ℕ) → IsInterface i → (x : Kind) → IsInstance p x (name_of p i)
  of_interface i h x = takes_all p lk i h.is_class (or_right (nat_eq i object_class) (is_interface_at p i) h.interface) x

  -- an instance of a class is one of each class above it
  above : (x : Kind) (c d : ℕ) → IsClass p c → IsInstance p x (name_of p c) → member d (upwards p c) ≡ true → IsInstance p x (name_of p d)
  unfolding is_below
  above x c d h i m = instance_fits x (name_of p c) (name_of p d) i (below_instance p lk c d h (member_class p lk class_bound c d h m) m)

  -- an object is an instance of its class
  of_class : (x : Kind) → IsKind p x → IsInstance p x (name_of p (class_of x))
  of_class (kind.Class c) k = instance_itself p lk c k
  of_class (kind.Array d b) k = of_object (kind.Array d b)

  class_is : (x : Kind) → IsKind p x → IsClass p (class_of x)
  class_is (kind.Class c) k = k
  class_is (kind.Array d b) k = builtin_is p lk object_class (omega arith)

  named_is : (x : Kind) → IsKind p x → IsClass p (named_class x)
  named_is (kind.Class c) k = k
  named_is (kind.Array d b) k = builtin_is p lk object_class (omega arith)

  of_named : (named x : Kind) → IsInstance p x (kind_name p named) → IsInstance p x (name_of p (named_class named))
  of_named (kind.Class c) x h = h
  of_named (kind.Array d b) x h = of_object x

  owned : (x : Kind) (cs : List ℕ) (n : ℕ) → OfClasses cs n → ((d : ℕ) → member d cs ≡ true → IsInstance p x (name_of p d)) → IsInstance p x (name_of p (method_at p n).class)
  owned x cs n o f = subst (λ (c : ℕ). IsInstance p x (name_of p c)) (sym o.declared.own) (f o.class o.listed)

  -- ---- selection

  like : (m n : ℕ) → is_like p m n ≡ true → IsMethod p n → IsSelected p m n
  like m n h k =
      let a = and_parts (not (is_static (method_at p n).flags)) _ h in
      let b = and_parts (bytes_eq (method_at p n).name (method_at p m).name) _ a.1 in
      record { method = k; name = units_true _ _ b.0; descriptor = units_true _ _ b.1; plain = not-true _ a.0 }

  chosen_of : (x : Kind) (m n : ℕ) (cs : List ℕ) → is_like p m n ≡ true → OfClasses cs n → ((d : ℕ) → member d cs ≡ true → IsInstance p x (name_of p d)) → SelectedOf p m x (chosen n)
  chosen_of x m n cs h o f = (like m n h o.declared.method, owned x cs n o f)

  open_like : (m n : ℕ) → is_open_like p m n ≡ true → is_like p m n ≡ true
  open_like m n h = (and_parts (not (is_private (method_at p n).flags)) _ h).1

  one_of : (x : Kind) (m : ℕ) (ms : List ℕ) → ((n : ℕ) → member n ms ≡ true → SelectedOf p m x (chosen n)) → SelectedOf p m x (one_with_code ms)
  one_of x m [] f = thrown p lk abstract_method_error refl
  one_of x m (n ∷ []) f = f n (member_first n [])
  one_of x m (n ∷ k ∷ ks) f = thrown p lk class_change_error refl

  kept : (x : Kind) (m c : ℕ) → SelectedOf p m x (kept_method p m c)
  unfolding kept_method
  kept x m c = one_of x m _ (λ n q.
      let a = filtered (λ k. has_code p k) (kept_of p (candidates p m c)) n q in
      let b = filtered _ (candidates p m c) n a.listed in
      let d = filtered (λ k. is_open_like p m k) (flat_map (λ i. (class_at p i).methods) (all_interfaces p c)) n b.listed in
      chosen_of x m n (all_interfaces p c) (open_like m n d.passes) (of_classes (all_interfaces p c) n d.listed) (λ i r. of_interface i (of_all c i r) x))

  first_declared : (x : Kind) (m c : ℕ) (f : ℕ → Bool) (cs : List ℕ) → ((n : ℕ) → f n ≡ true → is_like p m n ≡ true) → ((d : ℕ) → member d cs ≡ true → IsInstance p x (name_of p d)) → SelectedOf p m x (or_kept p m c (declared_in p f cs))
  first_declared x m c f cs g h = by (find f (flat_map (λ d. (class_at p d).methods) cs)) refl
    where
      by : (o : Option ℕ) → find f (flat_map (λ d. (class_at p d).methods) cs) ≡ o → SelectedOf p m x (or_kept p m c o)
      by None e = kept x m c
      by (Some n) e = let q = found f _ n e in chosen_of x m n cs (g n q.passes) (of_classes cs n q.listed) h

  selected : (x : Kind) (m : ℕ) → IsKind p x → SelectedOf p m x (select p m (class_of x))
  unfolding select
  selected x m k = first_declared x m (class_of x) (λ n. is_open_like p m n) (upwards p (class_of x)) (open_like m) (λ d r. above x (class_of x) d (class_is x k) (of_class x k) r)

  -- ---- the method that a call names

  named_of : (x : Kind) (m : ℕ) (cs : List ℕ) (f : ℕ → Bool) → find f (flat_map (λ d. (class_at p d).methods) cs) ≡ Some m → ((d : ℕ) → member d cs ≡ true → IsInstance p x (name_of p d)) → IsInstance p x (name_of p (method_at p m).class)
  named_of x m cs f e h = owned x cs m (of_classes cs m (found f _ m e).listed) h

  one_or_first_of : (m : ℕ) (ns ms : List ℕ) → ((n : ℕ) → member n ns ≡ true → member n ms ≡ true) → one_or_first ns ms ≡ Some m → member m ms ≡ true
  one_or_first_of m (n ∷ []) ms h e = let is : n ≡ m = cc in h m (or_left (nat_eq m n) false (eq-eqb m n (sym is)))
  one_or_first_of m _ (k ∷ ks) h e = let is : k ≡ m = cc in or_left (nat_eq m k) (member m ks) (eq-eqb m k (sym is))
  one_or_first_of m _ [] h e = absurd cc

  in_interfaces : (x : Kind) (m c : ℕ) (name descriptor : List ℕ) → find_in_interfaces p c name descriptor ≡ Some m → IsInstance p x (name_of p (method_at p m).class)
  unfolding find_in_interfaces
  in_interfaces x m c name descriptor e =
      let ms = interface_methods p c name descriptor in
      let listed = one_or_first_of m _ ms (λ n q.
      (filtered _ ms n (filtered (λ k. has_code p k) (kept_of p ms) n (sym (member-first_mentions n _) ∙ q)).listed).listed) e in
      let d = filtered _ (flat_map (λ i. (class_at p i).methods) (superinterfaces p c)) m listed in
      owned x (superinterfaces p c) m (of_classes (superinterfaces p c) m d.listed) (λ i r. of_interface i (of_super c i r) x)

  in_object : (x : Kind) (m : ℕ) (name descriptor : List ℕ) → find_in_object p name descriptor ≡ Some m → IsInstance p x (name_of p (method_at p m).class)
  in_object x m name descriptor e =
      let d = declares object_class m (found _ (class_at p object_class).methods m e).listed in
      subst (λ (c : ℕ). IsInstance p x (name_of p c)) (sym d.own) (of_object x)

  only : (x : Kind) (c d : ℕ) → IsInstance p x (name_of p c) → member d (c ∷ []) ≡ true → IsInstance p x (name_of p d)
  only x c d h m = elim (or_cases (nat_eq d c) false m) [ inl e ↦ subst (λ (k : ℕ). IsInstance p x (name_of p k)) (sym (eqb-true d c e)) h | inr e ↦ absurd cc ]

  -- an instance of the class from which a method is looked up is one of the method's class
  found_owner : (x : Kind) (c m : ℕ) → IsClass p c → IsInstance p x (name_of p c) → IsFound p c m → IsInstance p x (name_of p (method_at p m).class)
  unfolding find_method
  found_owner x c m h i e = by (bytes_eq (method_at p m).name init_name) (is_interface (class_at p c).flags) e
    where
      self : find_declared p (method_at p m).name (method_at p m).descriptor (c ∷ []) ≡ Some m → IsInstance p x (name_of p (method_at p m).class)
      self q = named_of x m (c ∷ []) (λ n. is_method p (method_at p m).name (method_at p m).descriptor n) q (λ d r. only x c d i r)

      by : (a b : Bool) → cond a (find_declared p (method_at p m).name (method_at p m).descriptor (c ∷ []))
          (cond b (or_else (find_declared p (method_at p m).name (method_at p m).descriptor (c ∷ [])) (or_else (find_in_object p (method_at p m).name (method_at p m).descriptor) (find_in_interfaces p c (method_at p m).name (method_at p m).descriptor)))
          (or_else (find_declared p (method_at p m).name (method_at p m).descriptor (upwards p c)) (find_in_interfaces p c (method_at p m).name (method_at p m).descriptor))) ≡ Some m → IsInstance p x (name_of p (method_at p m).class)
      by true b q = self q
      by false true q = elim (or_else_cases (find_declared p (method_at p m).name (method_at p m).descriptor (c ∷ [])) (or_else (find_in_object p (method_at p m).name (method_at p m).descriptor) (find_in_interfaces p c (method_at p m).name (method_at p m).descriptor)) m q) [
        | inl r ↦ self r
        | inr r ↦ elim (or_else_cases (find_in_object p (method_at p m).name (method_at p m).descriptor) (find_in_interfaces p c (method_at p m).name (method_at p m).descriptor) m r) [
          | inl s ↦ in_object x m (method_at p m).name (method_at p m).descriptor s
          | inr s ↦ in_interfaces x m c (method_at p m).name (method_at p m).descriptor s
        ]
      ]
      by false false q = elim (or_else_cases (find_declared p (method_at p m).name (method_at p m).descriptor (upwards p c)) (find_in_interfaces p c (method_at p m).name (method_at p m).descriptor) m q) [
        | inl r ↦ named_of x m (upwards p c) (λ n. is_method p (method_at p m).name (method_at p m).descriptor n) r (λ d s. above x c d h i s)
        | inr r ↦ in_interfaces x m c (method_at p m).name (method_at p m).descriptor r
      ]

  itself : (x : Kind) (c m : ℕ) → IsMethod p m → IsPlainMethod p m → IsClass p c → IsInstance p x (name_of p c) → IsFound p c m → SelectedOf p m x (chosen m)
  itself x c m k s h i f = (record { method = k; name = refl; descriptor = refl; plain = s }, found_owner x c m h i f)

  pub selected_virtual : (named x : Kind) (m : ℕ) → IsKind p named → IsKind p x → IsMethod p m → IsPlainMethod p m → IsFoundIn p named m → IsInstance p x (kind_name p named) → SelectedOf p m x (select_virtual p m (class_of x))
  unfolding select_virtual
  selected_virtual named x m kn kx h s f i = by (is_private (method_at p m).flags)
    where
      by : (b : Bool) → SelectedOf p m x (cond b (chosen m) (select p m (class_of x)))
      by true = itself x (named_class named) m h s (named_is named kn) (of_named named x i) f.1
      by false = selected x m kx

  pub selected_interface : (i m : ℕ) (x : Kind) → IsClass p i → is_interface_at p i ≡ true → IsKind p x → IsMethod p m → IsPlainMethod p m → IsFound p i m → SelectedOf p m x (select_interface p i m (class_of x))
  unfolding select_interface
  selected_interface i m x h n kx k s f = by (is_private (method_at p m).flags) (implements p (class_of x) i)
    where
      by : (b c : Bool) → SelectedOf p m x (cond b (chosen m) (cond c (select p m (class_of x)) (failing 15)))
      by true c = itself x i m k s h (of_interface i (record { is_class = h; interface = n }) x) f
      by false true = selected x m kx
      by false false = thrown p lk class_change_error refl

  -- ---- invokespecial

  path_of : (x : Kind) (c d : ℕ) → IsClass p c → IsInstance p x (name_of p c) → member d (special_path p c) ≡ true → IsInstance p x (name_of p d)
  path_of x c d h i m = by (is_interface (class_at p c).flags) m
    where
      by : (b : Bool) → member d (cond b (c ∷ object_class ∷ []) (upwards p c)) ≡ true → IsInstance p x (name_of p d)
      by true q = elim (or_cases (nat_eq d c) (member d (object_class ∷ [])) q) [
        | inl e ↦ subst (λ (k : ℕ). IsInstance p x (name_of p k)) (sym (eqb-true d c e)) i
        | inr e ↦ only x object_class d (of_object x) e
      ]
      by false q = above x c d h i q

  own_first : (d : ℕ) → member d (upwards p d) ≡ true
  unfolding is_below
  own_first d = below_same p d

  super_of : (c d : ℕ) → IsClass p c → (class_at p c).superclass ≡ Some d → IsClass p d × (member d (upwards p c) ≡ true)
  super_of c d h e =
      (superclass_is p lk c d h e, subst (λ (xs : List ℕ). member d xs ≡ true) (sym (upwards_step p lk c d h e)) (or_right (nat_eq d c) (member d (upwards p d)) (own_first d)))

  -- where the search starts is a class of which the receiver is an instance
  start_of : (x : Kind) (current : ℕ) (named : Kind) → IsClass p current → IsKind p named → assignable p (Object (name_of p current)) (Object (kind_name p named)) ≡ true → IsInstance p x (name_of p current)
      → IsClass p (special_start p current (named_class named)) × IsInstance p x (name_of p (special_start p current (named_class named)))
  start_of x current named h kn a i = by (not (nat_eq (named_class named) current) && member (named_class named) (upwards p current)) (class_at p current).superclass refl
    where
      plain : IsClass p (named_class named) × IsInstance p x (name_of p (named_class named))
      plain = (named_is named kn, of_named named x (instance_fits x (name_of p current) (kind_name p named) i a))

      by : (b : Bool) (o : Option ℕ) → (class_at p current).superclass ≡ o → IsClass p (cond b (above_or o (named_class named)) (named_class named)) × IsInstance p x (name_of p (cond b (above_or o (named_class named)) (named_class named)))
      by true (Some d) e = let s = super_of current d h e in (s.0, above x current d h i s.1)
      by _ _ e = plain

  pub selected_special : (current m : ℕ) (named x : Kind) → IsClass p current → IsKind p named → IsKind p x → IsMethod p m → IsPlainMethod p m → bytes_eq (method_at p m).name init_name ≡ false → IsFoundIn p named m
      → assignable p (Object (name_of p current)) (Object (kind_name p named)) ≡ true → IsInstance p x (name_of p current) → SelectedOf p m x (select_special p current (named_class named) m)
  unfolding select_special
  selected_special current m named x h kn kx k s n f a i =
      let c = special_start p current (named_class named) in
      let st = start_of x current named h kn a i in
      subst (λ (b : Bool). SelectedOf p m x (cond b (chosen m) (or_kept p m c (declared_in p (λ z. is_like p m z) (special_path p c))))) (sym n)
      (first_declared x m c (λ z. is_like p m z) (special_path p c) (λ z q. q) (λ d r. path_of x c d st.0 st.1 r))
