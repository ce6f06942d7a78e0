-- The whole step: its row or the driver's stage, and what comes after it.
use Rattle.std.proofs.Common.{◌≡◌, ◌⊎◌, ℕ, ◌+◌, ◌-◌, ◌*◌, ◌^◌, ◌<◌, ◌≤◌, length, Bool, true, false, not, ◌&&◌, ◌||◌, nat_eq, Option, Some, None, refl, sym, ◌∙◌, ap, subst, arith, inl, inr}
use Rattle.std.specs.List.{list_all}
use Rattle.std.proofs.lemmas.Bool.{and_parts, or_cases, eqb-true, not-true}
use Rattle.jvm_model.specs.declared.{values.Value.Value, library.Native.Native, instr.Instr.Instr, state.Stage.Stage, state.EntryKind.EntryKind}
use Rattle.jvm_model.specs.declared.outcome.Next.TheVariants.{Go, Fault, Enter}
use Rattle.jvm_model.specs.declared.instr.Instr.TheVariants as form
use Rattle.jvm_model.specs.declared.state.Stage.TheVariants.{First}
use Rattle.jvm_model.specs.declared.state.EntryKind.TheVariants.{Absent, InMethod, InClass}
use Rattle.jvm_model.specs.{declared.program.Program.Program, declared.program.MethodRec.MethodRec, World.World, Entries.Entries}
use Rattle.jvm_model.specs.{Initialise.row_finish, Initialise.row_fail, Library.builtin_defs, Library.builtin_methods, Access.Access, Access.bind, Access.run}
use Rattle.jvm_model.specs.{Natives.NativeGroup, Natives.of_object, Natives.native_group, Linked.Linked, Raising.row_raise}
use Rattle.jvm_model.specs.Classes.{method_at, field_at, form_at, is_private, is_static}
use Rattle.jvm_model.specs.{Rows.Answer, Rows.answer, Rows.stuck_row, State.State, State.Turn, State.with_entries}
use Rattle.jvm_model.specs.Step.{after_row, entered, row_here, acts, step, cost, touch}
use Rattle.jvm_model.proofs.BuiltinRules.{method_keeps}
use Rattle.check_sound.specs.PaceLaw.{sum_here, IsRunning, IsPriced, PutsHere, Writes, IsSameStatic, GetsHere, used_of, first_class, MetByEntry, MetBy, StateHere, Meets}
use Rattle.check_sound.proofs.{LibraryTypes.is_in_table, PacedRows.NamesAllowed, PacedRows.raise-paced, PacedCreate.cut, PacedNatives.allowance}
use Rattle.check_sound.proofs.Paced.{Limits, Paced, paced_done, paced_spend, Bounded, LeavesFor, Cut, CutRow, paced_map, paced_bind, paced_touches, paced_writes, paced_touched, paced_statics}
use Rattle.check_sound.proofs.{PacedInit.EntryAllowed, PacedInit.finish-paced, PacedInit.fail-paced, PacedHere.here-paced}
use Rattle.check_sound.proofs.PacedDriver.{PacedStep, StageAllowed, throws-paced, native-step-paced, drive-paced}

-- ---- a built-in method with four touches is static, and not private

abbrev is_apart : Option Native → MethodRec → Bool
is_apart None m = true
is_apart (Some x) m = nat_eq (allowance (native_group x)) 3 || (is_static m.flags && not (is_private m.flags))

all_apart : list_all (λ m. is_apart m.native m) builtin_methods ≡ true
unfolding builtin_methods builtin_defs
all_apart = refl

at_most_four : (g : NativeGroup) → allowance g ≤ 4
at_most_four of_object = omega arith
at_most_four _ = omega arith

-- ---- the step

-- what the step may touch of statics and states is allowed
pub record Allows (p : Program) (M : Limits) (s : State) : Type 0 where
  pub puts : (f : ℕ) → PutsHere p s f → M.puts f
  pub gets : (f : ℕ) → GetsHere p s f → M.gets f
  pub states : (c : ℕ) → StateHere p s c → M.states c

-- a step, or what is left of one, that touches no more than it pays for, or whose cost is cut, where B
abbrev pub CutStep : Limits → Type 0 → ℕ → ℕ → Access Turn → Type 0
CutStep M B c d t = Paced M (λ c d a. Bounded B c d) c d t

module _ (p : Program) (lk : Linked p) where
  enough : (c d m : ℕ) (x : Native) → (method_at p m).native ≡ Some x → LeavesFor p c d m (Some x) → d + allowance (native_group x) ≤ c
  enough c d m x e (inl h) = let a = at_most_four (native_group x) in omega arith
  enough c d m x e (inr h) = elim (or_cases (nat_eq (allowance (native_group x)) 3) _ (subst (λ (o : Option Native). is_apart o (method_at p m) ≡ true) e (method_keeps p lk.builtins (λ m. is_apart m.native m) all_apart m (is_in_table p lk m x e)))) [
    | inl q ↦ (let a = eqb-true (allowance (native_group x)) 3 q in let b = h.0 in omega arith)
    | inr q ↦ absurd (let r = and_parts (is_static (method_at p m).flags) (not (is_private (method_at p m).flags)) q in elim h.1 [
      | inl k ↦ (let z : true ≡ false = sym k ∙ not-true (is_private (method_at p m).flags) r.1 in cc)
      | inr k ↦ (let z : true ≡ false = sym r.0 ∙ k in cc)
    ])
  ]

module _ (p : Program) (M : Limits) where
  first_allowed : (s : State) → ((c : ℕ) → (s.stage ≡ First) × (first_class p s ≡ c) → M.states c) → StageAllowed p M s.stage s
  first_allowed s m = by s.stage refl
    where
      by : (x : Stage) → s.stage ≡ x → StageAllowed p M x s
      by First e = m (first_class p s) (e, refl)
      by _ e = tt

  names_allowed : (s : State) → Allows p M s → IsRunning s → ((c : ℕ) → used_of p (form_at p s.entries.top.number s.entries.top.pc) ≡ Some c → M.states c) → (i : Instr) → form_at p s.entries.top.number s.entries.top.pc ≡ Some i → NamesAllowed p M i
  names_allowed s a r m (form.GetStatic f) e = (a.gets f (r, e), m (field_at p f).class (ap (used_of p) e))
  names_allowed s a r m (form.PutStatic f) e = (a.puts f (r, e), m (field_at p f).class (ap (used_of p) e))
  names_allowed s a r m (form.New c) e = m c (ap (used_of p) e)
  names_allowed s a r m (form.InvokeStatic n) e = m (method_at p n).class (ap (used_of p) e)
  names_allowed s a r m _ e = tt

  entry_allowed : (b : Bool) (d : ℕ) → ((c : ℕ) → MetByEntry p None b d c → M.states c) → EntryAllowed p M (InClass b) d
  entry_allowed false d m = m
  entry_allowed true d m = m d refl

module _ (p : Program) (lk : Linked p) {M : Limits} {B : Type 0} where
  bounded : (t : Access Turn) (c d : ℕ) → PacedStep M c d t → CutStep M B c d t
  bounded t c d h = paced_map (λ c d a q. inl q) t c d h

  after-paced : (s : State) (c d : ℕ) (a : Answer Entries) → Cut p B c d a → CutStep M B c d (after_row p s a)
  after-paced s c d stuck_row h = paced_done (inl h)
  after-paced s c d (answer Go t) h = paced_done h
  after-paced s c d (answer (Fault e) t) h = bounded _ c d (throws-paced p lk c d e (with_entries s t) h.0 h.1)
  after-paced s c d (answer (Enter m) t) h = by (method_at p m).native refl h.1
    where
      by : (o : Option Native) → (method_at p m).native ≡ o → LeavesFor p c d m o → CutStep M B c d (entered p s o t)
      by None e q = paced_done (inl h.0)
      by (Some x) e q = bounded _ c d (native-step-paced p lk c d x (record { entries = t; own = s.own }) s (enough p lk c d m x e q))
  after-paced s c d _ h = paced_done (inl h.0)

  pub then-paced : (s : State) (t : Access (Answer Entries)) → CutRow p M B t → CutStep M B 4 0 (bind t (after_row p s))
  then-paced s t h = paced_bind M (λ c d a. Cut p B c d a) (λ c d a. Bounded B c d) t (after_row p s) 4 0 h (λ c d a q. after-paced s c d a q)

  acts-paced : (s : State) → Allows p M s → (IsRunning s → 2 ^ 64 - 2 < sum_here p s.entries → B) → CutStep M B 4 0 (acts p s.entries.top.kind s.raised s)
  acts-paced s a b = by s.entries.top.kind s.raised refl refl a.states
    where
      by : (k : EntryKind) (x : Option Value) → s.entries.top.kind ≡ k → s.raised ≡ x → ((c : ℕ) → MetBy k x p s c → M.states c) → CutStep M B 4 0 (acts p k x s)
      by Absent x e q m = bounded _ 4 0 (drive-paced p lk 4 0 s (first_allowed p M s m) (omega arith))
      by InMethod None e q m = then-paced s (row_here p s.entries) (here-paced p lk s.entries (names_allowed p M s a (e, q) m) (b (e, q)))
      by InMethod (Some v) e q m = then-paced s (row_raise p v s.entries) (cut p lk _ (raise-paced p lk v s.entries))
      by (InClass i) None e q m = then-paced s (row_finish p s.entries) (cut p lk _ (finish-paced p lk s.entries (subst (λ (k : EntryKind). EntryAllowed p M k s.entries.top.number) (sym e) (entry_allowed p M i s.entries.top.number m))))
      by (InClass i) (Some v) e q m = then-paced s (row_fail p v s.entries) (cut p lk _ (fail-paced p lk v s.entries (m s.entries.top.number refl)))

  pub step-paced : (s : State) → Allows p M s → (IsRunning s → 2 ^ 64 - 2 < sum_here p s.entries → B) → CutStep M B 0 0 (step p s)
  unfolding step
  step-paced s a b = paced_spend (acts-paced s a b)

-- ---- what a step touches, and the statics that it writes

-- just what the step may touch
abbrev limits_of : Program → State → Limits
limits_of p s = record { puts = PutsHere p s; gets = GetsHere p s; states = StateHere p s }

just_these : (p : Program) (s : State) → Allows p (limits_of p s) s
just_these p s = record { puts = λ f h. h; gets = λ f h. h; states = λ c h. h }

module _ (p : Program) (lk : Linked p) (s : State) (w : World) where
  -- the cost of the step is cut
  abbrev IsCut : Type 0
  IsCut = IsRunning s × (2 ^ 64 - 2 < sum_here p s.entries)

  tree_here : CutStep (limits_of p s) IsCut 0 0 (step p s)
  tree_here = step-paced p lk s (just_these p s) (λ r l. (r, l))

  -- at most four locations for each unit, or the cost is the greatest number
  pub step_bounded : Bounded (IsRunning s × (2 ^ 64 - 2 < sum_here p s.entries)) (4 * cost p s w + 0) (length (touch p s w) + 0)
  step_bounded = paced_touches (limits_of p s) (λ c d a. Bounded IsCut c d) (λ c d a h. h) (step p s) w 0 0 tree_here

  -- no other statics and states
  pub touched : Meets (λ f. GetsHere p s f ⊎ PutsHere p s f) (StateHere p s) (touch p s w)
  touched = paced_touched (limits_of p s) (λ c d a. Bounded IsCut c d) (step p s) w 0 0 tree_here

  pub paced : IsPriced p s → length (touch p s w) ≤ 4 * cost p s w
  paced h = elim step_bounded [
    | inl l ↦ omega arith
    | inr l ↦ absurd (let q = h l.0.0 in let r = l.0.1 in omega arith)
  ]

  -- a step writes only statics of M, where a putstatic of another isn't at the top
  pub statics_of : (M : ℕ → Type 0) → ((f : ℕ) → PutsHere p s f → M f) → Writes M (touch p s w) × ((f : ℕ) → (M f → ⊥) → IsSameStatic (run (step p s) w).world w f)
  statics_of M m =
      let l : Limits = record { puts = M; gets = λ f. Unit {0}; states = λ c. Unit {0} } in
      let t = step-paced p lk {M = l} {B = IsCut} s (record { puts = m; gets = λ f h. tt; states = λ c h. tt }) (λ r l. (r, l)) in
      (paced_writes l (λ c d a. Bounded IsCut c d) (step p s) w 0 0 t, λ f n. paced_statics l (λ c d a. Bounded IsCut c d) f n (step p s) w 0 0 t)
