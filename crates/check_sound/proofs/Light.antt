-- What the built-in classes have: of the throwables that steps throw by themselves no instance has more than one field, and a
-- class with a built-in method is trivial.
use Rattle.std.proofs.Common.{◌≡◌, ℕ, zero, suc, ◌+◌, ◌-◌, ◌<◌, ◌≤◌, List, [], ◌∷◌, length, get_or, filter, Bool, true, false, not, ◌&&◌, cond, nat_le, nat_lt, Option, Some, None, refl, sym, ◌∙◌, ap, subst, arith}
use Rattle.std.specs.List.{list_all, list_any}
use Rattle.std.specs.Prelude.{flat_map, is_some}
use Rattle.std.proofs.lemmas.Bool.{and_parts, and_from, leb-true, ltb-true, not-true}
use Rattle.std.proofs.lemmas.List.{length-append, length-map, Sums.length-filter, Sums.count_by-le-length}
use Rattle.jvm_model.specs.declared.{library.Native.Native, program.Program.Program, program.ClassRec.ClassRec}
use Rattle.jvm_model.specs.Builtin.{string_class, null_pointer_exception, builtin_count}
use Rattle.jvm_model.specs.{Library.builtin_defs, Library.builtin_classes, Linked.Linked}
use Rattle.jvm_model.specs.declared.values.Kind.TheVariants as kind
use Rattle.jvm_model.specs.Classes.{no_class, class_at, method_at, field_at, is_static, is_interface, is_trivial, declares_start, default_interfaces, own_interfaces, first_mentions, lineage_in, class_bound, is_default_method, upwards, upwards_in, plain_fields, layout_in, layout, blank, instance_head, fields_of, default_of}
use Rattle.jvm_model.proofs.{BuiltinRules.builtin_class, BuiltinRules.class_keeps, Upwards.upwards_step, Upwards.upwards_root}
use Rattle.check_sound.proofs.{Thrown.builtin_is, LibraryTypes.native_home, Paced.IsLight, Paced.cells}

counted : (a b : ℕ) → a ≡ b → suc (a + (0 + 0)) ≡ suc b
counted a b e = omega arith

pub instance_cells : (p : Program) (c : ℕ) → cells (blank p (instance_head c)) ≡ suc (length (layout p c))
unfolding blank
instance_cells p c = counted (length (fields_of p (kind.Class c))) (length (layout p c)) (length-map (layout p c) (λ (f : ℕ). (f, default_of (field_at p f).descriptor)))

-- a class without an initialiser or interfaces, which is no interface, below one of the same sort
abbrev superclass_within : Option ℕ → Bool
superclass_within None = true
superclass_within (Some d) = nat_lt d builtin_count

abbrev is_still : ClassRec → Bool
is_still c = not (is_some c.initialiser) && (not (is_interface c.flags) && (list_all (λ (i : ℕ). false) c.interfaces && superclass_within c.superclass))

all_still : list_all is_still builtin_classes ≡ true
unfolding builtin_classes builtin_defs
all_still = refl

none_there : (xs : List ℕ) → list_all (λ (i : ℕ). false) xs ≡ true → xs ≡ []
none_there [] e = refl
none_there (x ∷ xs) e = absurd (cc)

-- at most n fields are declared from the class upwards, in fewer than so many steps
abbrev few_up : ℕ → ℕ → ClassRec → Bool
few_up n zero c = false
few_up n (suc k) c = nat_le (length c.fields) n && elim c.superclass [ None ↦ true | Some d ↦ nat_lt d builtin_count && few_up (n - length c.fields) k (get_or builtin_classes d no_class) ]

all_few : list_all (few_up 1 6) builtin_classes ≡ true
unfolding builtin_classes builtin_defs
all_few = refl

filter_short : (f : ℕ → Bool) (xs : List ℕ) → length (filter f xs) ≤ length xs
filter_short f xs = let a = length-filter f xs in let b = count_by-le-length f xs in omega arith

module _ (p : Program) (lk : Linked p) where
  -- ---- fields

  few : (n k c : ℕ) → c < builtin_count → few_up n k (get_or builtin_classes c no_class) ≡ true → length (layout p c) ≤ n
  unfolding layout
  few n zero c h e = absurd (cc)
  few n (suc k) c h e =
      let x = get_or builtin_classes c no_class in
      let q = builtin_class p lk.builtins c h in
      let r = and_parts (nat_le (length x.fields) n) _ e in
      let f : length (class_at p c).fields ≡ length x.fields = ap (λ (y : ClassRec). length y.fields) q in
      let s = filter_short (λ g. not (is_static (field_at p g).flags)) (class_at p c).fields in
      by (length x.fields) x.superclass (ap (λ (y : ClassRec). y.superclass) q) (omega arith) (leb-true (length x.fields) n r.0) r.1 (λ m d i z. few m k d i z)
    where
      by : (m : ℕ) (o : Option ℕ) → (class_at p c).superclass ≡ o → length (plain_fields p c) ≤ m → m ≤ n
          → elim o [ None ↦ true | Some d ↦ nat_lt d builtin_count && few_up (n - m) k (get_or builtin_classes d no_class) ] ≡ true
          → ((m d : ℕ) → d < builtin_count → few_up m k (get_or builtin_classes d no_class) ≡ true → length (layout_in p (upwards p d)) ≤ m) → length (layout_in p (upwards p c)) ≤ n
      by m None e s l t f = subst (λ (xs : List ℕ). length (layout_in p xs) ≤ n) (sym (upwards_root p lk c e)) (omega arith)
      by m (Some d) e s l t f =
          let r = and_parts (nat_lt d builtin_count) _ t in
          let b = f (n - m) d (ltb-true d builtin_count r.0) r.1 in
          let a = length-append (layout_in p (upwards p d)) (plain_fields p c) in
          subst (λ (xs : List ℕ). length (layout_in p xs) ≤ n) (sym (upwards_step p lk c d (builtin_is p lk c h) e)) (omega arith)

  -- an instance of a built-in class has at most one field
  pub light : (c : ℕ) → c < builtin_count → IsLight p c
  light c h = few 1 6 c h (subst (λ (x : ClassRec). few_up 1 6 x ≡ true) (builtin_class p lk.builtins c h) (class_keeps p lk.builtins (few_up 1 6) all_few c h))

  pub string_cells : cells (blank p (instance_head string_class)) ≡ 1
  unfolding builtin_classes builtin_defs
  string_cells = let a = instance_cells p string_class in let b = few 0 2 string_class (omega arith) refl in omega arith

  pub null_light : IsLight p null_pointer_exception
  null_light = light null_pointer_exception (omega arith)

  -- ---- classes with built-in methods

  still : (c : ℕ) → c < builtin_count → is_still (class_at p c) ≡ true
  still c h = class_keeps p lk.builtins is_still all_still c h

  none_default : (c : ℕ) → (class_at p c).interfaces ≡ [] → default_interfaces p c ≡ []
  unfolding default_interfaces own_interfaces
  none_default c e = ap (λ (is : List ℕ). filter (λ i. list_any (λ m. is_default_method (method_at p m)) (class_at p i).methods) (first_mentions (flat_map (λ j. lineage_in p class_bound j) is))) e

  abbrev starts_nothing : ℕ → Bool
  starts_nothing d = not (declares_start p d) && list_all (λ i. not (declares_start p i)) (default_interfaces p d)

  nothing_starts : (d : ℕ) → d < builtin_count → starts_nothing d ≡ true
  nothing_starts d h =
      let x = class_at p d in
      let a = and_parts (not (is_some x.initialiser)) _ (still d h) in
      let b = and_parts (not (is_interface x.flags)) _ a.1 in
      let c = and_parts (list_all (λ (i : ℕ). false) x.interfaces) (superclass_within x.superclass) b.1 in
      and_from (not (declares_start p d)) _ a.0 (ap (λ (is : List ℕ). list_all (λ i. not (declares_start p i)) is) (none_default d (none_there x.interfaces c.0)))

  no_starts : (k c : ℕ) → c < builtin_count → list_all starts_nothing (upwards_in p k c) ≡ true
  no_starts zero c h = refl
  no_starts (suc k) c h = and_from (starts_nothing c) _ (nothing_starts c h) (by (class_at p c).superclass (and_parts (list_all (λ (i : ℕ). false) (class_at p c).interfaces) _ (and_parts (not (is_interface (class_at p c).flags)) _ (and_parts (not (is_some (class_at p c).initialiser)) _ (still c h)).1).1).1 (λ d l. no_starts k d l))
    where
      by : (o : Option ℕ) → superclass_within o ≡ true → ((d : ℕ) → d < builtin_count → list_all starts_nothing (upwards_in p k d) ≡ true) → list_all starts_nothing (elim o [ None ↦ [] | Some d ↦ upwards_in p k d ]) ≡ true
      by None e r = refl
      by (Some d) e r = r d (ltb-true d builtin_count e)

  builtin_trivial : (c : ℕ) → c < builtin_count → is_trivial p c ≡ true
  unfolding is_trivial
  builtin_trivial c h =
      let q = not-true (is_interface (class_at p c).flags) (and_parts (not (is_interface (class_at p c).flags)) _ (and_parts (not (is_some (class_at p c).initialiser)) _ (still c h)).1).0 in
      ap (λ (b : Bool). cond b (not (declares_start p c)) (list_all starts_nothing (upwards p c))) q ∙ no_starts class_bound c h

  pub native_trivial : (m : ℕ) (x : Native) → (method_at p m).native ≡ Some x → is_trivial p (method_at p m).class ≡ true
  native_trivial m x e = builtin_trivial (method_at p m).class (native_home p lk m x e).1
