-- What a linked program has of that: superclasses are classes, default interfaces are interfaces, classes that aren't trivial are
-- there, and so are the bodies of initialisers.
use Rattle.std.proofs.Common.{◌≡◌, ◌⊎◌, ℕ, zero, suc, ◌<◌, ◌≤◌, List, [], ◌∷◌, ◌++◌, length, filter, All, Bool, true, false, not, ◌&&◌, nat_lt, nat_eq, cond, Option, Some, None, IfSome, refl, sym, ◌∙◌, ap, subst, inl, inr, arith}
use Rattle.std.specs.Prelude.{flat_map}
use Rattle.std.specs.List.{list_all, list_any}
use Rattle.std.proofs.lemmas.{Bool.and_parts, Bool.cases_lt, Bool.ltb-true, List.get_or_past, Bool.not-true}
use Rattle.jvm_model.specs.declared.program.{Body.Body, ClassRec.ClassRec, Program.Program}
use Rattle.jvm_model.specs.{Builtin.builtin_count, Library.builtin_defs, Library.builtin_classes, Entries.entries_of, Entries.frame_of}
use Rattle.jvm_model.specs.Classes.{no_class, class_at, method_at, is_interface, is_default_method, default_interfaces, own_interfaces, first_mentions, lineage_in, class_bound}
use Rattle.jvm_model.specs.Linked.{Linked, IsMethod, IsBody, is_interface_at}
use Rattle.jvm_model.proofs.BuiltinRules.{lengths, all_at, builtin_class}
use Rattle.check_sound.proofs.InitRows.{nontrivial_class}
use Rattle.quiet_init.specs.{Quiet.is_quiet, Quiet.begun_world, StillLaw.HaveRows}
use Rattle.quiet_init.proofs.Hushes.{Listed, Sound}

-- ---- what is on a list of lists

listed_append : (xs ys : List ℕ) (i : ℕ) → Listed i (xs ++ ys) → Listed i xs ⊎ Listed i ys
listed_append [] ys i h = inr h
listed_append (x ∷ xs) ys i (inl e) = inl (inl e)
listed_append (x ∷ xs) ys i (inr h) = elim (listed_append xs ys i h) [ inl m ↦ inl (inr m) | inr m ↦ inr m ]

listed_filter : (f : ℕ → Bool) (xs : List ℕ) (i : ℕ) → Listed i (filter f xs) → Listed i xs
listed_filter f [] i h = absurd h
listed_filter f (x ∷ xs) i h = by (f x) (listed_filter f xs i) h
  where
    by : (b : Bool) → (Listed i (filter f xs) → Listed i xs) → Listed i (cond b (x ∷ filter f xs) (filter f xs)) → Listed i (x ∷ xs)
    by true r (inl e) = inl e
    by true r (inr h) = inr (r h)
    by false r h = inr (r h)

listed_first : (xs : List ℕ) (i : ℕ) → Listed i (first_mentions xs) → Listed i xs
listed_first [] i h = absurd h
listed_first (x ∷ xs) i (inl e) = inl e
listed_first (x ∷ xs) i (inr h) = inr (listed_first xs i (listed_filter (λ y. not (nat_eq x y)) (first_mentions xs) i h))

-- a property of all that the lists of some give
all_flat : (P : ℕ → Type 0) (f : ℕ → List ℕ) (xs : List ℕ) → ((x : ℕ) → Listed x xs → (i : ℕ) → Listed i (f x) → P i) → (i : ℕ) → Listed i (flat_map f xs) → P i
all_flat P f [] h i m = absurd m
all_flat P f (x ∷ xs) h i m = elim (listed_append (f x) (flat_map f xs) i m) [ inl l ↦ h x (inl refl) i l | inr l ↦ all_flat P f xs (λ y n. h y (inr n)) i l ]

listed_all : (P : ℕ → Type 0) (xs : List ℕ) → All P xs → (i : ℕ) → Listed i xs → P i
listed_all P [] a i m = absurd m
listed_all P (x ∷ xs) a i (inl e) = subst P (sym e) (a 0 0 (omega arith))
listed_all P (x ∷ xs) a i (inr m) = listed_all P xs (λ k d h. a (suc k) d (omega arith)) i m

-- ---- built-in classes are no interfaces, implement none, and have built-in classes above them

abbrev is_plain : ClassRec → Bool
is_plain r = not (is_interface r.flags) && (list_all (λ x. false) r.interfaces && elim r.superclass [ None ↦ true | Some d ↦ nat_lt d 32 ])

plain_builtins : list_all is_plain builtin_classes ≡ true
unfolding builtin_classes builtin_defs
plain_builtins = refl

none_listed : (xs : List ℕ) (i : ℕ) → list_all (λ x. false) xs ≡ true → Listed i xs → ⊥
none_listed [] i e m = absurd m
none_listed (x ∷ xs) i e m = absurd (cc)

module _ (p : Program) (lk : Linked p) where
  past : (c : ℕ) → length p.classes ≤ c → class_at p c ≡ no_class
  past c h = get_or_past p.classes c no_class h

  plain_at : (c : ℕ) → c < builtin_count → is_plain (class_at p c) ≡ true
  plain_at c h = ap is_plain (builtin_class p lk.builtins c h) ∙ all_at is_plain builtin_classes c no_class plain_builtins (let l = lengths.0 in omega arith)

  not_interface : (c : ℕ) → c < builtin_count → is_interface (class_at p c).flags ≡ false
  not_interface c h = not-true (is_interface (class_at p c).flags) (and_parts (not (is_interface (class_at p c).flags)) _ (plain_at c h)).0

  above : (c d : ℕ) → (class_at p c).superclass ≡ Some d → is_interface (class_at p d).flags ≡ false
  above c d s = elim (cases_lt c builtin_count) [
    | inl h ↦ not_interface d (ltb-true d 32 (let r = (and_parts (list_all (λ x. false) (class_at p c).interfaces) _ (and_parts (not (is_interface (class_at p c).flags)) _ (plain_at c h)).1).1 in sym (ap (λ (o : Option ℕ). elim o as (λ x. Bool) [ None ↦ true | Some d ↦ nat_lt d 32 ]) s) ∙ r))
    | inr h ↦ elim (cases_lt c (length p.classes)) [
      | inl g ↦ subst (λ (o : Option ℕ). IfSome o (λ d. is_interface_at p d ≡ false)) s (lk.kinds.classes c (h, g)).superclass
      | inr g ↦ absurd (let z : None ≡ Some d = sym (ap (λ (x : ClassRec). x.superclass) (past c g)) ∙ s in cc)
    ]
  ]

  -- what a class or interface implements is an interface
  direct : (c i : ℕ) → Listed i (class_at p c).interfaces → is_interface_at p i ≡ true
  direct c i m = elim (cases_lt c builtin_count) [
    | inl h ↦ absurd (none_listed (class_at p c).interfaces i (and_parts (list_all (λ x. false) (class_at p c).interfaces) _ (and_parts (not (is_interface (class_at p c).flags)) _ (plain_at c h)).1).0 m)
    | inr h ↦ elim (cases_lt c (length p.classes)) [
      | inl g ↦ listed_all (λ d. is_interface_at p d ≡ true) (class_at p c).interfaces (lk.kinds.classes c (h, g)).interfaces i m
      | inr g ↦ absurd (subst (λ (x : ClassRec). Listed i x.interfaces) (past c g) m)
    ]
  ]

  lineage : (k j : ℕ) → is_interface_at p j ≡ true → (i : ℕ) → Listed i (lineage_in p k j) → is_interface_at p i ≡ true
  lineage zero j e i m = absurd m
  lineage (suc k) j e i m = elim (listed_append (flat_map (λ x. lineage_in p k x) (class_at p j).interfaces) (j ∷ []) i m) [
    | inl l ↦ all_flat (λ x. is_interface_at p x ≡ true) (λ x. lineage_in p k x) (class_at p j).interfaces (λ x n y o. lineage k x (direct j x n) y o) i l
    | inr l ↦ elim l [ inl q ↦ ap (λ (x : ℕ). is_interface_at p x) q ∙ e | inr n ↦ absurd n ]
  ]

  beside : (c i : ℕ) → Listed i (default_interfaces p c) → is_interface (class_at p i).flags ≡ true
  unfolding default_interfaces own_interfaces
  beside c i m =
      all_flat (λ x. is_interface_at p x ≡ true) (λ j. lineage_in p class_bound j) (class_at p c).interfaces (λ x n y o. lineage class_bound x (direct c x n) y o) i
      (listed_first (flat_map (λ j. lineage_in p class_bound j) (class_at p c).interfaces) i
      (listed_filter (λ i. list_any (λ m. is_default_method (method_at p m)) (class_at p i).methods) (own_interfaces p c) i m))

  pub bodies : (c m : ℕ) (b : Body) → (class_at p c).initialiser ≡ Some m → (method_at p m).body ≡ Some b → IsBody b
  bodies c m b e h = elim (cases_lt c (length p.classes)) [
    | inl g ↦ subst (λ (o : Option Body). IfSome o (λ b. IsBody b)) h (lk.bodies m (subst (λ (o : Option ℕ). IfSome o (λ m. IsMethod p m)) e (lk.numbers.classes c g).initialiser))
    | inr g ↦ absurd (let z : None ≡ Some m = sym (ap (λ (x : ClassRec). x.initialiser) (past c g)) ∙ e in cc)
  ]

  -- so the rows of quiet initialisers are all that is left to give
  pub sound : ((c m : ℕ) (b : Body) → is_quiet p c ≡ true → (class_at p c).initialiser ≡ Some m → (method_at p m).body ≡ Some b → HaveRows p b.code (entries_of (frame_of b m [] ∷ [])) (begun_world p c)) → Sound p
  sound rows = record { linked = lk; above = above; beside = beside; there = nontrivial_class p lk; bodies = bodies; rows = rows }
