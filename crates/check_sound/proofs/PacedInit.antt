-- The rows of initialisation entries touch no more than they pay for: a default interface whose state is read costs 1, and the
-- superclass nothing.
use Rattle.std.proofs.Common.{◌≡◌, ℕ, suc, ◌+◌, ◌*◌, ◌≤◌, List, [], ◌∷◌, ◌++◌, length, map, filter, Bool, true, false, not, ◌&&◌, cond, nat_eq, Option, Some, None, IfSome, sym, ap, subst, arith, inl, inr}
use Rattle.std.specs.Prelude.{IsSome}
use Rattle.std.proofs.lemmas.{Bool.cases_lt, Bool.or_right, List.get_or_past}
use Rattle.jvm_model.specs.declared.values.{Value.Value, InitState.InitState}
use Rattle.jvm_model.specs.declared.values.InitState.TheVariants.{Idle, Erroneous}
use Rattle.jvm_model.specs.declared.program.{Body.Body, Program.Program, ClassRec.ClassRec}
use Rattle.jvm_model.specs.declared.state.{EntryKind.EntryKind, EntryKind.TheVariants.Absent, EntryKind.TheVariants.InClass}
use Rattle.jvm_model.specs.{Access.Access, Kinds.class_of, Linked.Linked, Linked.IsInitialiser, Rows.Answer}
use Rattle.jvm_model.specs.Builtin.{error_class, initializer_error, no_class_error, stack_overflow_error}
use Rattle.jvm_model.specs.Classes.{no_class, class_at, method_at, member, is_interface, is_below, is_trivial, default_interfaces, layout}
use Rattle.jvm_model.specs.Entries.{Entries, is_full, popped_entry}
use Rattle.jvm_model.specs.Initialise.{Part, superclass_part, parts_of, starts_body, starts, looked_at, looks, left_at, finishing, row_finish, fails, fails_anew, was_entered, row_fail}
use Rattle.jvm_model.proofs.Interfaces.{member_first}
use Rattle.check_sound.proofs.Paced.{Limits, either, paced_done, paced_read, paced_write, paced_make, paced_spend, PaysBy, PacedRow, on_object-paced}
use Rattle.check_sound.proofs.{Light.instance_cells, Light.light, Light.null_light, PacedRows.none, PacedRows.one, PacedRows.two}

-- a default interface, as a part
abbrev shared : ℕ → Part
shared i = record { class = i; price = 1 }

abbrev is_kept : Program → Part → Bool
is_kept p x = not (is_trivial p x.class)

module _ (p : Program) (lk : Linked p) where
  -- an initialiser has code
  abbrev HasCode : Option ℕ → Type 0
  HasCode o = IfSome o (λ m. IsSome (method_at p m).body)

  coded : (c : ℕ) (o : Option ℕ) → IfSome o (λ m. IsInitialiser p c m) → HasCode o
  coded c None h = tt
  coded c (Some m) h = h.code

  has_code : (c : ℕ) → HasCode (class_at p c).initialiser
  has_code c = elim (cases_lt c (length p.classes)) [
    | inl l ↦ coded c (class_at p c).initialiser (lk.listed.initialisers c l)
    | inr g ↦ subst HasCode (sym (ap (λ (x : ClassRec). x.initialiser) (get_or_past p.classes c no_class g))) tt
  ]

left-pays : (p : Program) (k : EntryKind) → PaysBy p 4 1 (left_at k)
left-pays p Absent = tt
left-pays p _ = tt

-- the states of these parts are allowed
abbrev PartsAllowed : Limits → List Part → Type 0
PartsAllowed M xs = (c : ℕ) → member c (map (λ (x : Part). x.class) xs) ≡ true → M.states c

-- what the entry at the top is about: the states of the class's parts before `<clinit>` is entered, and then that of the class
abbrev pub EntryAllowed : Program → Limits → EntryKind → ℕ → Type 0
EntryAllowed p M (InClass false) c = PartsAllowed M (parts_of p c)
EntryAllowed p M (InClass true) c = M.states c
EntryAllowed p M _ c = Unit {0}

module _ (M : Limits) where
  first_met : (x : Part) (xs : List Part) → PartsAllowed M (x ∷ xs) → M.states x.class
  first_met x xs m = m x.class (member_first x.class (map (λ (y : Part). y.class) xs))

  later_met : (x : Part) (xs : List Part) → PartsAllowed M (x ∷ xs) → PartsAllowed M xs
  later_met x xs m c h = m c (or_right (nat_eq c x.class) (member c (map (λ (y : Part). y.class) xs)) h)

  rest_met : (b : Bool) (x : Part) (xs : List Part) → PartsAllowed M (cond b (x ∷ xs) xs) → PartsAllowed M xs
  rest_met true x xs m = later_met x xs m
  rest_met false x xs m = m

module _ (p : Program) (lk : Linked p) {M : Limits} where
  body-paced : (o : Option Body) (m n d : ℕ) (s : Entries) → IsSome o → d ≤ 4 + 4 * n → PacedRow p M 4 d (starts_body o m n s)
  body-paced None m n d s h e = absurd (cc)
  body-paced (Some b) m n d s h e = either (is_full s) (paced_spend (paced_done (e, light p lk stack_overflow_error (omega arith)))) (paced_spend (paced_done (omega arith, tt)))

  starts-paced : (o : Option ℕ) (n d : ℕ) (s : Entries) → HasCode p lk o → d ≤ 4 + 4 * n → PacedRow p M 4 d (starts p o n s)
  starts-paced None n d s h e = paced_spend (paced_done (e, tt))
  starts-paced (Some m) n d s h e = body-paced (method_at p m).body m n d s h e

  looked-paced : (c n d : ℕ) (s : Entries) (rest : Access (Answer Entries)) (st : InitState) → M.states c → d ≤ n + 2 → PacedRow p M 4 d rest → PacedRow p M 4 d (looked_at c n s rest st)
  looked-paced c n d s rest Idle m e r = either (is_full s) (paced_spend (paced_done (omega arith, light p lk stack_overflow_error (omega arith)))) (paced_spend (paced_write m (paced_done (omega arith, tt))))
  looked-paced c n d s rest Erroneous m e r = paced_spend (paced_done (omega arith, light p lk no_class_error (omega arith)))
  looked-paced c n d s rest _ m e r = r

  none-paced : (n d : ℕ) (s : Entries) → d ≤ n + 2 → PacedRow p M 4 d (looks p [] n s)
  none-paced n d s e = starts-paced (class_at p s.top.number).initialiser n d s (has_code p lk s.top.number) (omega arith)

  kept-paced : (x : Part) (xs : List Part) (n d : ℕ) (s : Entries) (b : Bool) → PartsAllowed M (cond b (x ∷ xs) xs) → suc d ≤ (n + x.price) + 2 → PacedRow p M 4 (suc d) (looks p xs (n + x.price) s) → PacedRow p M 4 d (looks p xs n s) → PacedRow p M 4 d (looks p (cond b (x ∷ xs) xs) n s)
  kept-paced x xs n d s true m e f g = paced_read (first_met M x xs m) (λ st. looked-paced x.class (n + x.price) (suc d) s (looks p xs (n + x.price) s) st (first_met M x xs m) e f)
  kept-paced x xs n d s false m e f g = g

  shared-paced : (is : List ℕ) (n d : ℕ) (s : Entries) → PartsAllowed M (filter (is_kept p) (map shared is)) → d ≤ n + 2 → PacedRow p M 4 d (looks p (filter (is_kept p) (map shared is)) n s)
  shared-paced [] n d s m e = none-paced n d s e
  shared-paced (i ∷ is) n d s m e =
      let rest = rest_met M (is_kept p (shared i)) (shared i) (filter (is_kept p) (map shared is)) m in
      kept-paced (shared i) (filter (is_kept p) (map shared is)) n d s (is_kept p (shared i)) m (omega arith) (shared-paced is (n + 1) (suc d) s rest (omega arith)) (shared-paced is n d s rest e)

  parts-paced : (c : ℕ) (s : Entries) → PartsAllowed M (parts_of p c) → PacedRow p M 4 0 (looks p (parts_of p c) 0 s)
  unfolding parts_of
  parts-paced c s = by (is_interface (class_at p c).flags) (class_at p c).superclass
    where
      by : (b : Bool) (o : Option ℕ) → PartsAllowed M (cond b [] (filter (is_kept p) (superclass_part o ++ map shared (default_interfaces p c)))) → PacedRow p M 4 0 (looks p (cond b [] (filter (is_kept p) (superclass_part o ++ map shared (default_interfaces p c)))) 0 s)
      by true o m = none-paced 0 0 s (omega arith)
      by false None m = shared-paced (default_interfaces p c) 0 0 s m (omega arith)
      by false (Some d) m =
          let above : Part = record { class = d; price = 0 } in
          let rest = rest_met M (not (is_trivial p d)) above (filter (is_kept p) (map shared (default_interfaces p c))) m in
          kept-paced above (filter (is_kept p) (map shared (default_interfaces p c))) 0 0 s (not (is_trivial p d)) m (omega arith) (shared-paced (default_interfaces p c) 0 1 s rest (omega arith)) (shared-paced (default_interfaces p c) 0 0 s rest (omega arith))

  finishing-paced : (k : EntryKind) (s : Entries) → EntryAllowed p M k s.top.number → PacedRow p M 4 0 (finishing k p s)
  finishing-paced (InClass false) s m = parts-paced s.top.number s m
  finishing-paced (InClass true) s m = paced_write m (paced_done (one, left-pays p (popped_entry s).top.kind))
  finishing-paced _ s m = paced_done none

  pub finish-paced : (s : Entries) → EntryAllowed p M s.top.kind s.top.number → PacedRow p M 4 0 (row_finish p s)
  unfolding row_finish
  finish-paced s m = finishing-paced s.top.kind s m

  fails-paced : (v : Value) (s : Entries) → M.states s.top.number → PacedRow p M 4 1 (fails v s)
  fails-paced v s m = paced_write m (paced_done (two, tt))

  anew-paced : (s : Entries) → M.states s.top.number → PacedRow p M 4 1 (fails_anew p s)
  anew-paced s m = paced_spend (paced_write m (paced_make (λ o. paced_done ((let e = instance_cells p initializer_error in let l : length (layout p initializer_error) ≤ 1 = light p lk initializer_error (omega arith) in omega arith), tt))))

  pub fail-paced : (v : Value) (s : Entries) → M.states s.top.number → PacedRow p M 4 0 (row_fail p v s)
  unfolding row_fail
  fail-paced v s m = on_object-paced p (null_light p lk) none s v (λ o. paced_read tt (λ h. either (was_entered s.top.kind && not (is_below p (class_of h.kind) error_class)) (anew-paced s m) (fails-paced v s m)))
