-- The machine's steps at the code of a quiet initialiser, and the law.
use Rattle.std.proofs.Common.{◌≡◌, ◌≢◌, ℕ, zero, suc, ◌+◌, ◌<◌, List, [], ◌∷◌, length, get_or, drop, true, false, ◌||◌, Option, Some, None, refl, sym, ◌∙◌, ap, subst, arith}
use Rattle.std.proofs.lemmas.Bool.{and_parts}
use Rattle.jvm_model.specs.declared.{values.Value.Value, values.InitState.TheVariants.Running, outcome.Next.TheVariants.Go, state.EntryKind.EntryKind}
use Rattle.jvm_model.specs.declared.values.Location.TheVariants as place
use Rattle.jvm_model.specs.declared.{state.EntryKind.TheVariants.InMethod, state.EntryKind.TheVariants.InClass, instr.Instr.Instr, program.Body.Body}
use Rattle.jvm_model.specs.declared.instr.Instr.TheVariants as form
use Rattle.jvm_model.specs.{declared.program.Placed.Placed, declared.program.Program.Program, World.World, World.at, Linked.Ascends, Suite.opening}
use Rattle.jvm_model.specs.Classes.{method_at, is_trivial, form_at, next_place}
use Rattle.jvm_model.specs.Access.{Access, spend, bind, Ran, run}
use Rattle.jvm_model.specs.{Entries.Entry, Entries.Entries, Entries.entries_of, Entries.frame_of, Rows.Answer, Rows.answer, Rows.stuck_row}
use Rattle.jvm_model.specs.{RowsReturn.handed_on, RowsReturn.hands_on, RowsReturn.row_return, State.State, State.Turn, State.next, State.with_entries}
use Rattle.jvm_model.specs.Step.{row, row_or_none, row_here, after_row, step, turn}
use Rattle.jvm_model.proofs.{Binds.run_bind, Locations.at_put_same, Steps.step_runs, Places.form_at_index, Places.next_place_index, Places.place_beyond_next}
use Rattle.quiet_init.specs.Quiet.{is_calm, is_own, is_end, is_still, goes_with, left_after, left_by_start, left_by_body, begun_world, left_by}
use Rattle.quiet_init.specs.StillLaw.{Leads, there, one_more, HaveRows, HasOwn, StillLaw}
use Rattle.quiet_init.proofs.Still.{moved, Met, met_go, met_stuck, Twin, still_row, LeftAlike, code_alike}

-- ---- parts of lists

pub drop_first : {A : Type 0} (k : ℕ) (xs : List A) (d y : A) (ys : List A) → drop k xs ≡ y ∷ ys → get_or xs k d ≡ y
drop_first zero [] d y ys e = absurd (cc)
drop_first zero (x ∷ xs) d y ys e = cc
drop_first (suc k) [] d y ys e = absurd (cc)
drop_first (suc k) (x ∷ xs) d y ys e = drop_first k xs d y ys e

pub drop_more : {A : Type 0} (k : ℕ) (xs : List A) (y : A) (ys : List A) → drop k xs ≡ y ∷ ys → drop (suc k) xs ≡ ys
drop_more zero [] y ys e = absurd (cc)
drop_more zero (x ∷ xs) y ys e = cc
drop_more (suc k) [] y ys e = absurd (cc)
drop_more (suc k) (x ∷ xs) y ys e = drop_more k xs y ys e

pub drop_within : {A : Type 0} (k : ℕ) (xs : List A) (y : A) (ys : List A) → drop k xs ≡ y ∷ ys → k < length xs
drop_within zero [] y ys e = absurd (cc)
drop_within zero (x ∷ xs) y ys e = omega arith
drop_within (suc k) [] y ys e = absurd (cc)
drop_within (suc k) (x ∷ xs) y ys e = let h = drop_within k xs y ys e in omega arith

-- ---- one step

-- where the row of the instruction at the top goes on, so does the step
pub record Goes (p : Program) (s : State) (w : World) (t : Entries) (v : World) : Type 0 where
  pub turn_is : turn p s w ≡ next (with_entries s t)
  pub world_is : (run (step p s) w).world ≡ v

step_goes : (p : Program) (s : State) (w : World) (i : Instr) (t : Entries) → s.entries.top.kind ≡ InMethod → s.raised ≡ None → form_at p s.entries.top.number s.entries.top.pc ≡ Some i →
    (run (row p i s.entries) w).value ≡ answer Go t → Goes p s w t (run (row p i s.entries) w).world
unfolding row_here
step_goes p s w i t k n f e =
    let q : step p s ≡ spend 1 (bind (row p i s.entries) (after_row p s)) = step_runs p s k n ∙ ap (λ (o : Option Instr). spend 1 (bind (row_or_none p o s.entries) (after_row p s))) f in
    let r = run (row p i s.entries) w in
    record {
      turn_is = ap (λ (a : Access Turn). (run a w).value) q ∙ (ap (λ (z : Ran Turn). z.value) (run_bind (row p i s.entries) (after_row p s) w) ∙ ap (λ (a : Answer Entries). (run (after_row p s a) r.world).value) e);
      world_is = ap (λ (a : Access Turn). (run a w).world) q ∙ (ap (λ (z : Ran Turn). z.world) (run_bind (row p i s.entries) (after_row p s) w) ∙ ap (λ (a : Answer Entries). (run (after_row p s a) r.world).world) e);
    }

-- the operands that an instruction leaves which has a row
pub left_operands : {p : Program} {b : List Entry} {s : Entries} {x y : Answer Entries} → Met p b s x y → x ≢ stuck_row → (vs : List Value) × (x ≡ answer Go (moved p s vs))
left_operands (met_go vs) h = (vs, refl)
left_operands met_stuck h = absurd (h refl)

end_is : (i : Instr) → is_end i ≡ true → i ≡ form.Return None
end_is (form.Return None) e = refl
end_is _ e = absurd (cc)

-- ---- all steps

-- the place of the first instruction
abbrev pub first_place : List Placed → ℕ
first_place [] = 0
first_place (x ∷ xs) = x.pc

-- a frame of the method at an instruction, above an entry of a class whose `<clinit>` was entered
pub record Stands (m from : ℕ) (e : Entry) (es : List Entry) (s : State) : Type 0 where
  pub kind : s.entries.top.kind ≡ InMethod
  pub number : s.entries.top.number ≡ m
  pub pc : s.entries.top.pc ≡ from
  pub below : s.entries.below ≡ e ∷ es
  pub quiet : s.raised ≡ None

module _ (p : Program) (c m : ℕ) (n : is_trivial p c ≡ false) (b : Body) (hb : (method_at p m).body ≡ Some b) (asc : Ascends 0 b.code) (e : Entry) (es : List Entry) (entered : e.kind ≡ InClass true) where
  -- the state without the frame
  abbrev popped : State → State
  popped s = record s { entries = entries_of (e ∷ es); raised = None }

  form_is : (k : ℕ) (x : Placed) (ys : List Placed) (s : State) → drop k b.code ≡ x ∷ ys → Stands m x.pc e es s → form_at p s.entries.top.number s.entries.top.pc ≡ Some x.form
  form_is k x ys s d h =
      let g = drop_first k b.code x x ys d in
      ap (λ (z : ℕ). form_at p z s.entries.top.pc) h.number ∙ (ap (λ (z : ℕ). form_at p m z) h.pc
      ∙ subst (λ (y : Placed). form_at p m y.pc ≡ Some y.form) g (form_at_index p m b k x hb asc (drop_within k b.code x ys d)))

  pub next_is : (k : ℕ) (x y : Placed) (ys : List Placed) → drop k b.code ≡ x ∷ y ∷ ys → next_place p m x.pc ≡ y.pc
  next_is k x y ys d =
      let g = drop_first k b.code x x (y ∷ ys) d in
      let d2 = drop_more k b.code x (y ∷ ys) d in
      let i = drop_within k b.code x (y ∷ ys) d in
      let j = drop_within (suc k) b.code y ys d2 in
      let h : get_or b.code (k + 1) x ≡ y = (let z : k + 1 ≡ suc k = omega arith in ap (λ (q : ℕ). get_or b.code q x) z) ∙ drop_first (suc k) b.code x y ys d2 in
      subst (λ (z : Placed). next_place p m z.pc ≡ y.pc) g (next_place_index p m b k x hb asc i ∙ (place_beyond_next b.code b.length k x (omega arith) ∙ ap (λ (z : Placed). z.pc) h))

  -- the return
  last : (x : Placed) (s : State) (w : World) → is_end x.form ≡ true → form_at p s.entries.top.number s.entries.top.pc ≡ Some x.form → Stands m x.pc e es s → Leads p 1 s w (popped s) (run (row p x.form s.entries) w).world
  unfolding row row_return hands_on
  last x s w h f st =
      let i = end_is x.form h in
      let v : (run (row p x.form s.entries) w).value ≡ answer Go (entries_of (e ∷ es)) =
      ap (λ (z : Instr). (run (row p z s.entries) w).value) i ∙ (ap (λ (z : List Entry). (run (handed_on (entries_of z).top.kind p [] (entries_of z)) w).value) st.below ∙ ap (λ (z : EntryKind). (run (handed_on z p [] (entries_of (e ∷ es))) w).value) entered) in
      let g = step_goes p s w x.form (entries_of (e ∷ es)) st.kind st.quiet f v in
      one_more g.turn_is (subst (λ (z : World). Leads p 0 (popped s) z (popped s) (run (row p x.form s.entries) w).world) (sym g.world_is) there)

  pub leads : (k : ℕ) (xs : List Placed) (s : State) (w : World) → drop k b.code ≡ xs → is_still p c xs ≡ true → Stands m (first_place xs) e es s → at w (place.Init c) ≡ Running → HaveRows p xs s.entries w →
      Leads p (length xs) s w (popped s) (left_after p xs s.entries w)
  leads k [] s w d h st i hr = absurd (cc)
  leads k (x ∷ []) s w d h st i hr = last x s w h (form_is k x [] s d st) st
  leads k (x ∷ y ∷ ys) s w d h st i hr =
      let hs = and_parts (is_calm x.form || is_own p c x.form) (is_still p c (y ∷ ys)) h in
      let a = still_row p c n s.entries.below s.entries w w (record { left = i; right = i; own = λ f q. refl }) x.form hs.0 in
      let r = run (row p x.form s.entries) w in
      let o = left_operands a.met hr.0 in
      let t = moved p s.entries o.0 in
      let g = step_goes p s w x.form t st.kind st.quiet (form_is k x (y ∷ ys) s d st) o.1 in
      let z : goes_with s.entries r.value ≡ t = ap (λ (q : Answer Entries). goes_with s.entries q) o.1 in
      let next_pc : next_place p s.entries.top.number s.entries.top.pc ≡ y.pc = ap (λ (q : ℕ). next_place p q s.entries.top.pc) st.number ∙ (ap (λ (q : ℕ). next_place p m q) st.pc ∙ next_is k x y ys d) in
      let l = leads (suc k) (y ∷ ys) (with_entries s t) r.world (drop_more k b.code x (y ∷ ys) d) hs.1 (record { kind = st.kind; number = st.number; pc = next_pc; below = st.below; quiet = refl }) a.twin.left (subst (λ (q : Entries). HaveRows p (y ∷ ys) q r.world) z hr.1) in
      one_more g.turn_is (subst (λ (v : World). Leads p (suc (length ys)) (with_entries s t) v (popped s) (left_after p (y ∷ ys) (goes_with s.entries r.value) r.world)) (sym g.world_is)
      (subst (λ (q : Entries). Leads p (suc (length ys)) (with_entries s t) r.world (popped s) (left_after p (y ∷ ys) q r.world)) (sym z) l))

-- ---- the law

pub starts_at : (xs : List Placed) (d : Placed) → 0 < length xs → (get_or xs 0 d).pc ≡ 0 → 0 ≡ first_place xs
starts_at [] d l e = absurd (omega arith)
starts_at (x ∷ xs) d l e = sym e

pub still_law : StillLaw
unfolding left_by opening
still_law p c m b s e es w hi hb h n body he entered hr i own rows =
    let s0 = entries_of (frame_of b m [] ∷ []) in
    let u = begun_world p c in
    let st : Stands m (first_place b.code) e es s = record {
      kind = ap (λ (z : Entries). z.top.kind) he;
      number = ap (λ (z : Entries). z.top.number) he;
      pc = ap (λ (z : Entries). z.top.pc) he ∙ starts_at b.code (record { pc = 0; form = form.Nop }) body.some body.first;
      below = ap (λ (z : Entries). z.below) he;
      quiet = hr;
    } in
    let l = leads p c m n b hb body.ascending e es entered 0 b.code s w refl h st i rows in
    let tw : Twin p c u w = record { left = at_put_same (opening p) (place.Init c) Running refl; right = i; own = own } in
    let a = code_alike p c n (e ∷ es) b.code s0 u w h tw in
    let q : left_by p c ≡ left_after p b.code s0 u = ap (λ (z : Option ℕ). left_by_start p c z) hi ∙ ap (λ (z : Option Body). left_by_body p c m z) hb in
    let k = subst (λ (z : Entries). LeftAlike p c w (left_after p b.code s0 u) (left_after p b.code z w)) (sym he) a in
    record {
      world = left_after p b.code s.entries w;
      leads = l;
      own = subst (λ (z : World). HasOwn p c z (left_after p b.code s.entries w)) (sym q) k.own;
      alone = k.alone;
    }
