-- A quiet class whose parts are done, from its entry to its end.
use Rattle.std.proofs.Common.{◌≡◌, ◌⊎◌, ℕ, zero, suc, ◌+◌, List, [], ◌∷◌, ◌++◌, length, Bool, true, false, cond, Option, Some, None, refl, sym, ◌∙◌, ap, subst, inl, inr, arith, append-nil}
use Rattle.jvm_model.specs.declared.values.InitState.{InitState, TheVariants.Running, TheVariants.Done}
use Rattle.jvm_model.specs.declared.values.Location.TheVariants as place
use Rattle.jvm_model.specs.declared.{outcome.Next.TheVariants.Go, state.EntryKind.EntryKind}
use Rattle.jvm_model.specs.declared.state.EntryKind.TheVariants.{Absent, InMethod, InClass}
use Rattle.jvm_model.specs.{declared.program.Body.Body, declared.program.Program.Program, World.World, World.at, World.put}
use Rattle.jvm_model.specs.{Classes.class_at, Classes.method_at, Classes.is_trivial, Rows.Answer, Rows.answer, Rows.faults, Builtin.stack_overflow_error}
use Rattle.jvm_model.specs.Access.{Access, done, spend, Ran, run}
use Rattle.jvm_model.specs.{Linked.IsBody, State.State, State.Turn, State.next, State.with_entries, Step.after_row, Step.step, Step.turn}
use Rattle.jvm_model.specs.Entries.{Entries, entries_of, frame_of, frame_cost, with_entry, is_full, popped_entry}
use Rattle.jvm_model.specs.Initialise.{Part, parts_of, with_entered, starts_body, starts, looked_at, looks, left_at, finishing, row_finish}
use Rattle.jvm_model.proofs.{Binds.run_bind, Steps.step_finishes}
use Rattle.quiet_init.specs.Quiet.{is_still, begun_world, left_by}
use Rattle.quiet_init.specs.StillLaw.{Leads, there, one_more, HaveRows, HasOwn, OwnAlone}
use Rattle.quiet_init.proofs.StillSteps.{still_law}

-- one after the other
pub leads_then : {p : Program} {k n : ℕ} {s t u : State} {w v x : World} → Leads p k s w t v → Leads p n t v u x → (m : ℕ) → m ≡ k + n → Leads p m s w u x
leads_then {p = p} {n = n} {s = s} {u = u} {w = w} {x = x} there l m e = let z : n ≡ m = omega arith in subst (λ (i : ℕ). Leads p i s w u x) z l
leads_then (one_more h l) r zero e = absurd (omega arith)
leads_then (one_more h l) r (suc m) e = one_more h (leads_then l r m (omega arith))

-- the part is done, or is being initialised
abbrev pub IsStarted : World → Part → Type 0
IsStarted w x = (at w (place.Init x.class) ≡ Done) ⊎ (at w (place.Init x.class) ≡ Running)

abbrev pub AreStarted : World → List Part → Type 0
AreStarted w [] = Unit {0}
AreStarted w (x ∷ xs) = IsStarted w x × AreStarted w xs

-- a step on an entry of a class
pub record Finishes (p : Program) (s : State) (w : World) (t : Entries) (v : World) : Type 0 where
  pub turn_is : turn p s w ≡ next (with_entries s t)
  pub world_is : (run (step p s) w).world ≡ v

module _ (p : Program) (s : State) (w : World) where
  -- how a row that goes on ends the step, whether an entry is left below or not
  pub goes : (b : Bool) (k : EntryKind) (t : Entries) (v : World) → s.entries.top.kind ≡ InClass b → s.raised ≡ None → (run (row_finish p s.entries) w).value ≡ answer (left_at k) t → (run (row_finish p s.entries) w).world ≡ v → Finishes p s w t v
  goes b k t v e n f g =
      let q = step_finishes p s b e n in
      let r = run (row_finish p s.entries) w in
      let z : run (after_row p s r.value) r.world ≡ run (after_row p s (answer (left_at k) t)) v = ap (λ (a : Answer Entries). run (after_row p s a) r.world) f ∙ ap (λ (u : World). run (after_row p s (answer (left_at k) t)) u) g in
      record {
        turn_is = ap (λ (a : Access Turn). (run a w).value) q ∙ (ap (λ (y : Ran Turn). y.value) (run_bind (row_finish p s.entries) (after_row p s) w) ∙ (ap (λ (y : Ran Turn). y.value) z ∙ after k));
        world_is = ap (λ (a : Access Turn). (run a w).world) q ∙ (ap (λ (y : Ran Turn). y.world) (run_bind (row_finish p s.entries) (after_row p s) w) ∙ (ap (λ (y : Ran Turn). y.world) z ∙ left k));
      }
    where
      after : (k : EntryKind) → (run (after_row p s (answer (left_at k) t)) v).value ≡ next (with_entries s t)
      after Absent = refl
      after _ = refl

      left : (k : EntryKind) → (run (after_row p s (answer (left_at k) t)) v).world ≡ v
      left Absent = refl
      left _ = refl

-- what is left of a row once all parts are looked at
pub record Looked (q r : Ran (Answer Entries)) : Type 0 where
  pub value : q.value ≡ r.value
  pub world : q.world ≡ r.world

module _ (p : Program) (s : Entries) (w : World) where
  over_started : (x : Part) (n : ℕ) (rest : Access (Answer Entries)) → IsStarted w x → run (looked_at x.class n s rest (at w (place.Init x.class))) w ≡ run rest w
  over_started x n rest (inl e) = ap (λ (st : InitState). run (looked_at x.class n s rest st) w) e
  over_started x n rest (inr e) = ap (λ (st : InitState). run (looked_at x.class n s rest st) w) e

  -- parts that are started are passed over
  pub passed : (xs ys : List Part) (n : ℕ) → AreStarted w xs → (m : ℕ) × Looked (run (looks p (xs ++ ys) n s) w) (run (looks p ys m s) w)
  passed [] ys n d = (n, record { value = refl; world = refl })
  passed (x ∷ xs) ys n d =
      let r = passed xs ys (n + x.price) d.1 in
      let e = over_started x (n + x.price) (looks p (xs ++ ys) (n + x.price) s) d.0 in
      (r.0, record { value = ap (λ (y : Ran (Answer Entries)). y.value) e ∙ r.1.value; world = ap (λ (y : Ran (Answer Entries)). y.world) e ∙ r.1.world })

  -- and `<clinit>` is entered
  pub enters : (m n : ℕ) (b : Body) → (class_at p s.top.number).initialiser ≡ Some m → (method_at p m).body ≡ Some b → is_full s ≡ false →
      Looked (run (starts p (class_at p s.top.number).initialiser n s) w) (run (spend (n + frame_cost b) (done (answer Go (with_entry (frame_of b m []) (with_entered s))))) w)
  enters m n b hi hb f =
      let e = ap (λ (o : Option ℕ). run (starts p o n s) w) hi ∙ (ap (λ (o : Option Body). run (starts_body o m n s) w) hb
      ∙ ap (λ (c : Bool). run (cond c (spend n (faults stack_overflow_error s)) (spend (n + frame_cost b) (done (answer Go (with_entry (frame_of b m []) (with_entered s)))))) w) f) in
      record { value = ap (λ (y : Ran (Answer Entries)). y.value) e; world = ap (λ (y : Ran (Answer Entries)). y.world) e }

-- The entry of a quiet class, its parts done, is gone after two steps more than its code has instructions; the class is Done, its
-- statics are what the initialiser leaves, and nothing else changed.
pub record EndsDone (p : Program) (c k : ℕ) (s : State) (w : World) : Type 0 where
  pub before : World
  pub leads : Leads p k s w (record s { entries = entries_of s.entries.below; raised = None }) (put before (place.Init c) Done)
  pub own : HasOwn p c (left_by p c) before
  pub alone : OwnAlone p c w before

pub quiet_ends : (p : Program) (c m : ℕ) (b : Body) (s : State) (w : World) → (class_at p c).initialiser ≡ Some m → (method_at p m).body ≡ Some b → is_still p c b.code ≡ true → is_trivial p c ≡ false → IsBody b →
    s.entries.top.kind ≡ InClass false → s.entries.top.number ≡ c → s.raised ≡ None → is_full s.entries ≡ false → AreStarted w (parts_of p c) → at w (place.Init c) ≡ Running → HasOwn p c (begun_world p c) w →
    HaveRows p b.code (with_entry (frame_of b m []) (with_entered s.entries)) w → EndsDone p c (suc (length b.code + 1)) s w
unfolding row_finish
quiet_ends p c m b s w hi hb h n body k number quiet full done_parts i own rows =
    let es = s.entries in
    let t = with_entry (frame_of b m []) (with_entered es) in
    let e = (with_entered es).top in
    let hn : (class_at p es.top.number).initialiser ≡ Some m = ap (λ (z : ℕ). (class_at p z).initialiser) number ∙ hi in
    let l = passed_all (parts_of p es.top.number) 0 (subst (λ (z : ℕ). AreStarted w (parts_of p z)) (sym number) done_parts) in
    let en = enters p es w m l.0 b hn hb full in
    let first_value = ap (λ (z : EntryKind). (run (finishing z p es) w).value) k ∙ (l.1.value ∙ en.value) in
    let first_world = ap (λ (z : EntryKind). (run (finishing z p es) w).world) k ∙ (l.1.world ∙ en.world) in
    let g = goes p s w false InMethod t w k quiet first_value first_world in
    let s1 = with_entries s t in
    let st = still_law p c m b s1 e es.below w hi hb h n body refl refl refl i own rows in
    let s2 : State = record s1 { entries = entries_of (e ∷ es.below); raised = None } in
    let last = goes p s2 st.world true (popped_entry s2.entries).top.kind (entries_of es.below) (put st.world (place.Init es.top.number) Done) refl refl refl refl in
    let one : Leads p 1 s2 st.world (record s { entries = entries_of es.below; raised = None }) (put st.world (place.Init c) Done) =
    one_more last.turn_is (subst (λ (z : World). Leads p 0 (record s { entries = entries_of es.below; raised = None }) z (record s { entries = entries_of es.below; raised = None }) (put st.world (place.Init c) Done))
    (sym (last.world_is ∙ ap (λ (z : ℕ). put st.world (place.Init z) Done) number)) there) in
    record {
      before = st.world;
      leads = one_more g.turn_is (subst (λ (z : World). Leads p (length b.code + 1) s1 z (record s { entries = entries_of es.below; raised = None }) (put st.world (place.Init c) Done)) (sym g.world_is) (leads_then st.leads one (length b.code + 1) refl));
      own = st.own;
      alone = st.alone;
    }
  where
    passed_all : (xs : List Part) (n : ℕ) → AreStarted w xs → (m : ℕ) × Looked (run (looks p xs n s.entries) w) (run (starts p (class_at p s.entries.top.number).initialiser m s.entries) w)
    passed_all xs n d = let r = passed p s.entries w xs [] n d in (r.0, subst (λ (ys : List Part). Looked (run (looks p ys n s.entries) w) (run (starts p (class_at p s.entries.top.number).initialiser r.0 s.entries) w)) (append-nil xs) r.1)
