-- One step of both runs; then a whole test: where a hushed class is begun the program goes on alone until it is done, and else both
-- make a step.
use Rattle.std.proofs.Common.{◌≡◌, ◌+◌, Bool, true, cond, nat_eq, Option, Some, None, refl, sym, ◌∙◌, ap, subst, inl, inr, arith}
use Rattle.std.proofs.lemmas.Bool.{eq-eqb}
use Rattle.jvm_model.specs.declared.{values.Value.Value, values.Value.TheVariants.Obj, values.Head.Head, program.Program.Program}
use Rattle.jvm_model.specs.declared.values.Location.TheVariants as place
use Rattle.jvm_model.specs.declared.state.{EntryKind.EntryKind, EntryKind.TheVariants.Absent, EntryKind.TheVariants.InMethod, EntryKind.TheVariants.InClass}
use Rattle.jvm_model.specs.{World.World, World.size, World.object_at, World.make_object, Access.Access, Access.spend, Access.Ran, Access.run}
use Rattle.jvm_model.specs.{Builtin.stack_overflow_error, Classes.blank, Classes.instance_head, Entries.Entries, Entries.is_full, Kinds.class_of, Step.step}
use Rattle.jvm_model.specs.{Reached.thrown_after, Reached.thrown_itself, Reached.Overflows, Throwing.throws}
use Rattle.jvm_model.specs.State.{State, Turn, next, raised_in, with_entries}
use Rattle.jvm_model.proofs.Locations.{at_make_new}
use Rattle.jvm_model.proofs.Steps.{step_drives, step_runs, step_raises, step_finishes, step_fails}
use Rattle.order_law.specs.{Numbers.same_numbers, Pairing.PairedOption, Pairing.both_none, Pairing.both_some}
use Rattle.order_law.proofs.{Combinators.V, States.frame_top, Steps.States, Steps.raise_row-paired}
use Rattle.type_frames.specs.TypedState.{TypedState, IsTop, Initialises}
use Rattle.check_sound.proofs.{PacedCreate.cut, PacedRows.raise-paced}
use Rattle.quiet_init.specs.Quiet.{quiet}
use Rattle.quiet_init.proofs.{Beside.IsHushed, Beside.Beside, Hushes.Sound}
use Rattle.quiet_law.proofs.{Together.Equal, Clear.Locked, Plain.twins, Here.here_out, Looks.init_out, Looks.fail_out, Driven.drive_out, Calm.IsCalm}
use Rattle.quiet_law.proofs.Use.{Met, Comes, alike, goes, Out, locked, begins, no_room, rows_alike}

-- a step under which there is no room throws a StackOverflowError by itself
over_room : (p : Program) (s : State) (w : World) → (s.entries.top.kind ≡ Absent → ⊥) → (run (step p s) w).value ≡ (run (throws p stack_overflow_error (with_entries s s.entries)) w).value →
    (run (step p s) w).world ≡ (run (throws p stack_overflow_error (with_entries s s.entries)) w).world → Overflows p s w
unfolding thrown_itself throws blank
over_room p s w n f g =
    ap (λ (y : Turn). thrown_after (size w) y (run (step p s) w).world) f
    ∙ (ap (λ (y : World). thrown_after (size w) (run (throws p stack_overflow_error (with_entries s s.entries)) w).value y) g
    ∙ by s.entries.top.kind refl)
  where
    made : World
    made = make_object w (blank p (instance_head stack_overflow_error))

    thrown : cond (nat_eq (size w) (size w)) (Some (class_of (object_at made (size w)).head.kind)) None ≡ Some stack_overflow_error
    thrown = ap (λ (y : Bool). cond y (Some (class_of (object_at made (size w)).head.kind)) None) (eq-eqb (size w) (size w) refl)
        ∙ ap (λ (y : Head). Some (class_of y.kind)) (at_make_new w (blank p (instance_head stack_overflow_error)) (place.Head (size w)) refl)

    by : (k : EntryKind) → s.entries.top.kind ≡ k → thrown_after (size w) (next (raised_in k (Obj (size w)) (with_entries s s.entries))) made ≡ Some stack_overflow_error
    by Absent e = absurd (n e)
    by _ e = thrown

-- the step of the driver, or of a row, with its 1
spent_alike : (p : Program) {r x : Ran Turn} → Locked p (Met p) r x → Locked p (Met p) (record r { units = 1 + r.units }) (record x { units = 1 + x.units })
spent_alike p l = record { value = l.value; world = l.world; units = (let n = l.units in omega arith); sound = l.sound }

module _ (p : Program) (sd : Sound p) (s t : State) (w v : World) (o : States (twins p sd.linked) s t) (bs : Beside p Equal w v) (td : TypedState p w s) (calm : IsCalm s) (free : Overflows p s w → ⊥) where
  settle_alike : (a b : Access Turn) → step p s ≡ spend 1 a → step (quiet p) t ≡ spend 1 b → Locked p (Met p) (run a w) (run b v) → Locked p (Met p) (run (step p s) w) (run (step (quiet p) t) v)
  settle_alike a b e g l = subst (λ (z : Access Turn). Locked p (Met p) (run z w) (run (step (quiet p) t) v)) (sym e) (subst (λ (z : Access Turn). Locked p (Met p) (run (spend 1 a) w) (run z v)) (sym g) (spent_alike p l))

  settle_comes : (a b : Access Turn) → step p s ≡ spend 1 a → step (quiet p) t ≡ spend 1 b → Comes p s w (run a w) (run b v) → Comes p s w (run (step p s) w) (run (step (quiet p) t) v)
  settle_comes a b e g (alike l) = alike (settle_alike a b e g l)
  settle_comes a b e g (goes n k) = goes n (record { class = k.class; hushed = k.hushed; idle = k.idle; value = ap (λ (z : Access Turn). (run z w).value) e ∙ k.value; world = ap (λ (z : Access Turn). (run z w).world) e ∙ k.world })

  settle : (a b : Access Turn) → step p s ≡ spend 1 a → step (quiet p) t ≡ spend 1 b → (s.entries.top.kind ≡ Absent → ⊥) → s.raised ≡ None → Out p s w (run a w) (run b v) → Comes p s w (run (step p s) w) (run (step (quiet p) t) v)
  settle a b e g k n (locked l) = alike (settle_alike a b e g l)
  settle a b e g k n (begins q) = settle_comes a b e g (goes n q)
  settle a b e g k n (no_room f q) = absurd (free (over_room p s w k (ap (λ (z : Access Turn). (run z w).value) e ∙ f) (ap (λ (z : Access Turn). (run z w).world) e ∙ q)))

  -- the class of the entry at the top is being initialised, so it isn't hushed
  loud_top : (b : Bool) (x : Option Value) → s.entries.top.kind ≡ InClass b → s.raised ≡ x → IsHushed p s.entries.top.number → ⊥
  loud_top b x e n h =
      let i : Initialises p w s.entries.top = top x (subst (λ (k : EntryKind). IsTop p w x k s.entries.top) e (subst (λ (r : Option Value). IsTop p w r s.entries.top.kind s.entries.top) n td.top)) in
      elim (bs.hushed s.entries.top.number h) [
        | inl q ↦ absurd (let z = sym q ∙ i.running in cc)
        | inr q ↦ absurd (let z = sym q ∙ i.running in cc)
      ]
    where
      top : (r : Option Value) → IsTop p w r (InClass b) s.entries.top → Initialises p w s.entries.top
      top None h = h
      top (Some v) h = h

  pub step_comes : (run (step p s) w).sound ≡ true → Comes p s w (run (step p s) w) (run (step (quiet p) t) v)
  step_comes ok = by s.entries.top.kind refl refl refl o.raised
    where
      sound_of : (a : Access Turn) → step p s ≡ spend 1 a → (run a w).sound ≡ true
      sound_of a e = ap (λ (z : Access Turn). (run z w).sound) (sym e) ∙ ok

      by : (k : EntryKind) {x y : Option Value} → s.entries.top.kind ≡ k → s.raised ≡ x → t.raised ≡ y → PairedOption (V (twins p sd.linked)) x y → Comes p s w (run (step p s) w) (run (step (quiet p) t) v)
      by Absent e n g r =
          let a = step_drives p s e in
          settle_comes _ _ a (step_drives (quiet p) t (sym o.entries.top.kind ∙ e)) (drive_out p sd.linked s t w v o bs (ap (λ (z : Entries). is_full z) (td.alone e)) (calm e) (sound_of _ a))
      by InMethod e n g both_none =
          let a = step_runs p s e n in
          settle _ _ a (step_runs (quiet p) t (sym o.entries.top.kind ∙ e) g) (λ q. absurd (let z : InMethod ≡ Absent = sym e ∙ q in cc)) n (here_out p sd.linked s t w v o bs (frame_top same_numbers (λ a b. a ≡ b) o.entries e) (sound_of _ a))
      by InMethod e n g (both_some {x} {y} r) =
          let a = step_raises p s x e n in
          alike (settle_alike _ _ a (step_raises (quiet p) t y (sym o.entries.top.kind ∙ e) g) (rows_alike p sd.linked s t w v o bs (raise_row-paired (twins p sd.linked) r (frame_top same_numbers (λ a b. a ≡ b) o.entries e)) (cut p sd.linked _ (raise-paced p sd.linked x s.entries)) (sound_of _ a)))
      by (InClass b) e n g both_none =
          let a = step_finishes p s b e n in
          settle _ _ a (step_finishes (quiet p) t b (sym o.entries.top.kind ∙ e) g) (λ q. absurd (let z : InClass b ≡ Absent = sym e ∙ q in cc)) n (init_out p sd s t w v o bs b e (loud_top b None e n) (sound_of _ a))
      by (InClass b) e n g (both_some {x} {y} r) =
          let a = step_fails p s b x e n in
          alike (settle_alike _ _ a (step_fails (quiet p) t b y (sym o.entries.top.kind ∙ e) g) (fail_out p sd s t w v o bs b e (loud_top b (Some x) e n) x y r (sound_of _ a)))
