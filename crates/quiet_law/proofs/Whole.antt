-- A whole test in both runs: it ends alike, and without quiet initialisers it costs no more.
use Rattle.std.proofs.Common.{◌≡◌, ℕ, zero, suc, ◌+◌, ◌-◌, ◌<◌, ◌≤◌, length, ◌∷◌, ◌&&◌, ◌++◌, true, Option, None, refl, sym, ◌∙◌, ap, subst, inl, inr, arith}
use Rattle.std.proofs.lemmas.Bool.{and_parts, and_from, cases_lt}
use Rattle.jvm_model.specs.declared.{values.Value.Value, values.InitState.TheVariants.Running, program.Program.Program}
use Rattle.jvm_model.specs.declared.values.Location.TheVariants as place
use Rattle.jvm_model.specs.declared.state.{EntryKind.EntryKind, EntryKind.TheVariants.Absent, EntryKind.TheVariants.InMethod, EntryKind.TheVariants.InClass}
use Rattle.jvm_model.specs.{World.World, World.put, Access.Ran, Access.run, Entries.Entries, Entries.entries_of, Step.step}
use Rattle.jvm_model.specs.{Reached.Reaches, Reached.steps, Reached.Overflows, State.State, State.Turn, State.next}
use Rattle.jvm_model.specs.Suite.{End, finished, stuck, out_of_steps, after_step, whole}
use Rattle.jvm_model.proofs.Binds.{run_bind}
use Rattle.order_law.specs.{Numbers.same_numbers, Outcomes.PairedEnd, Outcomes.both_finished, Pairing.PairedOption}
use Rattle.order_law.proofs.{Combinators.V, Steps.States, States.both_next, States.both_ended, States.no_turns}
use Rattle.type_frames.specs.{Typing.IsTyped, TypedState.TypedState, TypedState.TypedWorld}
use Rattle.check_sound.proofs.{AllGroups.groups, Reaching.reached_typed}
use Rattle.quiet_init.specs.{Quiet.quiet, StillLaw.Leads, StillLaw.there, StillLaw.one_more}
use Rattle.quiet_init.proofs.{Beside.Beside, Beside.fresh, Hushes.Sound, Hushing.hushed_classes, Later.one_step, Later.rest_of}
use Rattle.quiet_init.proofs.Going.{IsWhole, pushed, resting, going}
use Rattle.quiet_law.proofs.{Together.Equal, Together.beside_after_going, Clear.Locked, Plain.twins, Calm.reached_calm, Stutter.step_comes}
use Rattle.quiet_law.proofs.Use.{Met, Begins, Comes, alike, goes}

-- an end with a verdict
abbrev pub IsFinished : End → Type 0
IsFinished (finished v o) = Unit {0}
IsFinished _ = ⊥

-- a run of no more steps than lead to some state doesn't get to an end
module _ (p : Program) where
  too_short : {k : ℕ} {s u : State} {w v : World} → Leads p k s w u v → (n : ℕ) → n ≤ k → IsFinished (run (whole p n s) w).value → ⊥
  too_short l zero le f = f
  too_short there (suc n) le f = absurd (omega arith)
  too_short {s = s} {u = u} {w = w} {v = v} (one_more {n = k} {t = t} h l) (suc n) le f = too_short {k = k} l n (omega arith) (subst IsFinished (one_step p n s t w h).value f)

-- the entries of a typed state
is_whole : (p : Program) (w : World) (s : State) → TypedState p w s → IsWhole s
is_whole p w s td = by s.entries.top.kind refl
  where
    by : (k : EntryKind) → s.entries.top.kind ≡ k → entries_of (elim k [ Absent ↦ s.entries.below | InMethod ↦ s.entries.top ∷ s.entries.below | InClass b ↦ s.entries.top ∷ s.entries.below ]) ≡ s.entries
    by Absent e = let a = td.alone e in ap (λ (z : Entries). entries_of z.below) a ∙ sym a
    by _ e = refl

-- nothing is raised on one side
resting-paired : (p : Program) (sd : Sound p) (s t : State) → s.raised ≡ None → States (twins p sd.linked) s t → States (twins p sd.linked) (resting s) t
resting-paired p sd s t n o = record { test = o.test; entries = o.entries; stage = o.stage; raised = subst (λ (z : Option Value). PairedOption (V (twins p sd.linked)) z t.raised) n o.raised; own = o.own }

-- a step of both, and what comes after it
module _ (p : Program) (n k : ℕ) (s t : State) (w v : World) where
  abbrev left : Ran End
  left = run (after_step (λ u. whole p n u) (run (step p s) w).value) (run (step p s) w).world

  abbrev right : Ran End
  right = run (after_step (λ u. whole (quiet p) k u) (run (step (quiet p) t) v).value) (run (step (quiet p) t) v).world

  joined : Locked p (Met p) (run (step p s) w) (run (step (quiet p) t) v) → Locked p (PairedEnd same_numbers) left right → Locked p (PairedEnd same_numbers) (run (whole p (suc n) s) w) (run (whole (quiet p) (suc k) t) v)
  joined a b =
      let x = run_bind (step p s) (after_step (λ u. whole p n u)) w in
      let y = run_bind (step (quiet p) t) (after_step (λ u. whole (quiet p) k u)) v in
      let f = run (step p s) w in
      let g = run (step (quiet p) t) v in
      subst (λ (z : Ran End). Locked p (PairedEnd same_numbers) z (run (whole (quiet p) (suc k) t) v)) (sym x) (subst (λ (z : Ran End). Locked p (PairedEnd same_numbers)
      (record { sound = f.sound && left.sound; value = left.value; world = left.world; touches = f.touches ++ left.touches; units = f.units + left.units }) z) (sym y) (record {
        value = b.value;
        world = b.world;
        units = (let i = a.units in let j = b.units in omega arith);
        sound = and_from g.sound right.sound a.sound b.sound;
      }))

  -- the run is sound, and so are its parts
  parts_sound : (run (whole p (suc n) s) w).sound ≡ true → ((run (step p s) w).sound ≡ true) × (left.sound ≡ true)
  parts_sound ok = and_parts (run (step p s) w).sound left.sound (sym (ap (λ (z : Ran End). z.sound) (run_bind (step p s) (after_step (λ u. whole p n u)) w)) ∙ ok)

  same_end : (run (whole p (suc n) s) w).value ≡ left.value
  same_end = ap (λ (z : Ran End). z.value) (run_bind (step p s) (after_step (λ u. whole p n u)) w)

module _ (p : Program) (ty : IsTyped p) (sd : Sound p) (test : ℕ) (low : 0 < test) (high : test ≤ length p.tests) (start : World) (ts : TypedWorld p start) (free : (s : State) (v : World) → Reaches p test start s v → Overflows p s v → ⊥) where
  reaches_on : {n : ℕ} {s u : State} {w v : World} → Reaches p test start s w → Leads p n s w u v → Reaches p test start u v
  reaches_on r there = r
  reaches_on r (one_more h l) = reaches_on (steps r h) l

  -- a hushed class is begun and done, and the program is back at the same state
  record Gone (s : State) (w v : World) : Type 0 where
    more : ℕ
    world : World
    leads : Leads p (suc more) s w (resting s) world
    beside : Beside p Equal world v

  gone : (s : State) (w v : World) → TypedState p w s → Beside p Equal w v → Reaches p test start s w → Begins p s w (run (step p s) w) → Gone s w v
  gone s w v td bs r h =
      let rp : Reaches p test start (pushed h.class s) (put w (place.Init h.class) Running) = subst (λ (z : World). Reaches p test start (pushed h.class s) z) h.world (steps r h.value) in
      let a = going p (hushed_classes p ty h.class h.hushed.0 h.hushed.1) s w (is_whole p w s td) (fresh p Equal bs) h.idle (λ n t x l. free t x (reaches_on rp l)) in
      record {
        more = a.steps;
        world = a.world;
        leads = one_more h.value (subst (λ (z : World). Leads p a.steps (pushed h.class s) z (resting s) a.world) (sym h.world) a.leads);
        beside = beside_after_going p sd w v a.world bs a.went;
      }

  -- what is claimed of n steps of the program, and k of the other
  abbrev Ends : ℕ → ℕ → State → State → World → World → Type 0
  Ends n k s t w v = States (twins p sd.linked) s t → Beside p Equal w v → Reaches p test start s w → (run (whole p n s) w).sound ≡ true → IsFinished (run (whole p n s) w).value →
      Locked p (PairedEnd same_numbers) (run (whole p n s) w) (run (whole (quiet p) k t) v)

  abbrev Shorter : ℕ → Type 0
  Shorter b = (n k : ℕ) → n ≤ b → n ≤ k → (s t : State) (w v : World) → Ends n k s t w v

  after_out : (n k : ℕ) → n ≤ k → Shorter n → {x y : Turn} → Met p x y → (w v : World) → Beside p Equal w v → ((s : State) → x ≡ next s → Reaches p test start s w) → (run (after_step (λ u. whole p n u) x) w).sound ≡ true → IsFinished (run (after_step (λ u. whole p n u) x) w).value →
      Locked p (PairedEnd same_numbers) (run (after_step (λ u. whole p n u) x) w) (run (after_step (λ u. whole (quiet p) k u) y) v)
  after_out n k le more (both_next {s} {t} o) w v bs r ok f = more n k (omega arith) le s t w v o bs (r s refl) ok f
  after_out n k le more (both_ended e g) w v bs r ok f = record { value = both_finished e g; world = bs; units = omega arith; sound = refl }
  after_out n k le more no_turns w v bs r ok f = absurd f

  one_out : (n k : ℕ) → n ≤ k → Shorter n → (s t : State) (w v : World) → Ends (suc n) (suc k) s t w v
  one_out n k le more s t w v o bs r ok f = by (step_comes p sd s t w v o bs td (reached_calm p test start w s r) (free s w r) (parts_sound p n k s t w v ok).0)
    where
      td : TypedState p w s
      td = reached_typed p ty (groups p ty) test start w s ts low high r

      by : Comes p s w (run (step p s) w) (run (step (quiet p) t) v) → Locked p (PairedEnd same_numbers) (run (whole p (suc n) s) w) (run (whole (quiet p) (suc k) t) v)
      by (alike l) = joined p n k s t w v l (after_out n k le more l.value (run (step p s) w).world (run (step (quiet p) t) v).world l.world (λ u e. steps r e) (parts_sound p n k s t w v ok).1 (subst IsFinished (same_end p n k s t w v) f))
      by (goes q h) = let g = gone s w v td bs r h in elim (cases_lt n (suc g.more)) [
        | inl l ↦ absurd (too_short p g.leads (suc n) (omega arith) f)
        | inr l ↦
            let m = n - g.more in
            let a = rest_of p g.leads (suc n) m (omega arith) in
            let b = more m (suc k) (omega arith) (omega arith) (resting s) t g.world v (resting-paired p sd s t q o) g.beside (reaches_on r g.leads) (a.sound ok) (subst IsFinished a.value f) in
            record {
              value = subst (λ (z : End). PairedEnd same_numbers z (run (whole (quiet p) (suc k) t) v).value) (sym a.value) b.value;
              world = subst (λ (z : World). Beside p Equal z (run (whole (quiet p) (suc k) t) v).world) (sym a.world) b.world;
              units = (let x = a.units in let y = b.units in omega arith);
              sound = b.sound;
            }
      ]

  pub whole_out : (b : ℕ) → Shorter b
  whole_out b zero k hb hk s t w v o bs r ok f = absurd f
  whole_out (suc b) (suc n) (suc k) hb hk s t w v o bs r ok f = one_out n k (omega arith) (λ i j hi hj. whole_out b i j (omega arith) hj) s t w v o bs r ok f
  whole_out _ (suc n) _ hb hk s t w v o bs r ok f = absurd (omega arith)
