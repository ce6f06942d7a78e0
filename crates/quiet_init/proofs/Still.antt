-- The code of a quiet initialiser, instruction by instruction: beside the definition's own run, under no other entry and in the
-- world of the opening values, and on the machine.
use Rattle.std.proofs.Common.{◌≡◌, ◌≢◌, ℕ, ℤ, List, [], ◌∷◌, Bool, true, false, not, ◌||◌, cond, nat_eq, None, refl, sym, ◌∙◌, ap, subst, inl, inr}
use Rattle.std.proofs.lemmas.Bool.{and_parts, or_cases, eqb-true, cases_Bool}
use Rattle.jvm_model.specs.declared.values.{Value.Value, InitState.InitState, InitState.TheVariants.Running, Touch.Touch}
use Rattle.jvm_model.specs.declared.values.Value.TheVariants as value
use Rattle.jvm_model.specs.declared.values.Location.TheVariants as place
use Rattle.jvm_model.specs.declared.{outcome.Next.TheVariants.Go, state.EntryKind.EntryKind}
use Rattle.jvm_model.specs.declared.{state.EntryKind.TheVariants.Absent, instr.Op.Op}
use Rattle.jvm_model.specs.declared.{instr.Conv.Conv, instr.Instr.Instr, program.Placed.Placed, program.Program.Program}
use Rattle.jvm_model.specs.declared.instr.Conv.TheVariants as conv
use Rattle.jvm_model.specs.declared.instr.Instr.TheVariants as form
use Rattle.jvm_model.specs.{World.World, World.at, World.put, Classes.field_at, Classes.is_trivial, Classes.next_place}
use Rattle.jvm_model.specs.Access.{Access, done, read, write, bind, read_of, Ran, run}
use Rattle.jvm_model.specs.Entries.{Entry, Entries, with_stack, with_place, popped_entry}
use Rattle.jvm_model.specs.Rows.{Answer, answer, stuck_row, none_here, goes_on, popping, on_int, on_long, ready, begun_at, begin, once, using}
use Rattle.jvm_model.specs.RowsMoves.{is_long, two_under_long, two_under_two, row_moves}
use Rattle.jvm_model.specs.RowsArith.{divides, shifts, unless_zero, two_ints, two_longs, converted, row_arith}
use Rattle.jvm_model.specs.RowsStatics.{read_static, write_static, row_statics}
use Rattle.jvm_model.specs.{RowsReturn.handed_on, RowsReturn.hands_on, RowsReturn.row_return, Step.row, Narrow.narrowed}
use Rattle.jvm_model.proofs.Locations.{same_false, at_put_same, at_put_other}
use Rattle.quiet_init.specs.Quiet.{is_calm, is_own, is_end, is_still, goes_with, left_after}
use Rattle.quiet_init.specs.StillLaw.{HasOwn, OwnAlone, HaveRows}

-- the same top entry over these entries
abbrev pub under : List Entry → Entries → Entries
under b s = record s { below = b }

-- ---- instructions that touch nothing

-- the entries after an instruction that goes on at the next one, with these operands
abbrev pub moved : Program → Entries → List Value → Entries
moved p s vs = with_place (with_stack s vs) (next_place p s.top.number s.top.pc)

-- both go on, with the same operands, or neither has a row
pub data Both (p : Program) (b : List Entry) (s : Entries) : Access (Answer Entries) → Access (Answer Entries) → Type 0 where
  both_go : (vs : List Value) → Both p b s (done (answer Go (moved p s vs))) (done (answer Go (under b (moved p s vs))))
  both_stuck : Both p b s none_here none_here

module _ (p : Program) (b : List Entry) (s : Entries) where
  pops : (vs : List Value) {k l : Value → List Value → Access (Answer Entries)} → ((v : Value) (us : List Value) → Both p b s (k v us) (l v us)) → Both p b s (popping vs k) (popping vs l)
  pops [] f = both_stuck
  pops (v ∷ vs) f = f v vs

  ints : (v : Value) {k l : ℤ → Access (Answer Entries)} → ((n : ℤ) → Both p b s (k n) (l n)) → Both p b s (on_int v k) (on_int v l)
  ints (value.Int n) f = f n
  ints _ f = both_stuck

  longs : (v : Value) {k l : ℤ → Access (Answer Entries)} → ((n : ℤ) → Both p b s (k n) (l n)) → Both p b s (on_long v k) (on_long v l)
  longs (value.Long n) f = f n
  longs _ f = both_stuck

  either : (c : Bool) {k l m n : Access (Answer Entries)} → Both p b s k l → Both p b s m n → Both p b s (cond c k m) (cond c l n)
  either true f g = f
  either false f g = g

  whole : (x : Op) (d : ℤ) (u t : Entries) {k l : Access (Answer Entries)} → divides x ≡ false → Both p b s k l → Both p b s (unless_zero x d u k) (unless_zero x d t l)
  whole x d u t e f = rw e f

  of_ints : (x : Op) → divides x ≡ false → Both p b s (two_ints p x s) (two_ints p x (under b s))
  of_ints x e = pops s.top.stack (λ v vs. pops vs (λ u rest. ints v (λ d. ints u (λ a. whole x d _ _ e (both_go _)))))

  of_longs : (x : Op) → divides x ≡ false → Both p b s (two_longs p x s) (two_longs p x (under b s))
  of_longs x e = pops s.top.stack (λ v vs. pops vs (λ u rest. longs v (λ d. longs u (λ a. whole x d _ _ e (both_go _)))))

  converts : (x : Conv) → Both p b s (converted p x s) (converted p x (under b s))
  converts conv.L2i = pops s.top.stack (λ v vs. longs v (λ a. both_go _))
  converts _ = pops s.top.stack (λ v vs. ints v (λ a. both_go _))

  under_long : (a d : Value) (ws : List Value) → Both p b s (two_under_long p s a d ws) (two_under_long p (under b s) a d ws)
  under_long a d ws = either (is_long d) (both_go _) (pops ws (λ c rest. both_go _))

  under_two : (a d : Value) (ws : List Value) → Both p b s (two_under_two p s a d ws) (two_under_two p (under b s) a d ws)
  under_two a d ws = pops ws (λ c xs. either (is_long c) (both_go _) (pops xs (λ e rest. both_go _)))

  no_division : (x : Op) → not (divides x) ≡ true → divides x ≡ false
  no_division x e = elim (cases_Bool (divides x)) [ inr f ↦ f | inl f ↦ absurd (let z = rw f at e in cc) ]

  pub calm_row : (i : Instr) → is_calm i ≡ true → Both p b s (row p i s) (row p i (under b s))
  unfolding row row_moves row_arith
  calm_row form.Nop e = both_go s.top.stack
  calm_row (form.Const v) e = both_go _
  calm_row form.Pop e = pops s.top.stack (λ a vs. both_go vs)
  calm_row form.Pop2 e = pops s.top.stack (λ a vs. either (is_long a) (both_go vs) (pops vs (λ d rest. both_go rest)))
  calm_row form.Dup e = pops s.top.stack (λ a vs. both_go _)
  calm_row form.DupX1 e = pops s.top.stack (λ a vs. pops vs (λ d rest. both_go _))
  calm_row form.DupX2 e = pops s.top.stack (λ a vs. pops vs (λ d ws. under_long a d ws))
  calm_row form.Dup2 e = pops s.top.stack (λ a vs. either (is_long a) (both_go _) (pops vs (λ d rest. both_go _)))
  calm_row form.Dup2X1 e = pops s.top.stack (λ a vs. pops vs (λ d ws. either (is_long a) (both_go _) (pops ws (λ c rest. both_go _))))
  calm_row form.Dup2X2 e = pops s.top.stack (λ a vs. pops vs (λ d ws. either (is_long a) (under_long a d ws) (under_two a d ws)))
  calm_row form.Swap e = pops s.top.stack (λ a vs. pops vs (λ d rest. both_go _))
  calm_row (form.Binary x false) e = of_ints x (no_division x e)
  calm_row (form.Binary x true) e = either (shifts x) (pops s.top.stack (λ v vs. pops vs (λ u rest. ints v (λ d. longs u (λ a. both_go _))))) (of_longs x (no_division x e))
  calm_row (form.Neg false) e = pops s.top.stack (λ v vs. ints v (λ a. both_go _))
  calm_row (form.Neg true) e = pops s.top.stack (λ v vs. longs v (λ a. both_go _))
  calm_row (form.Convert x) e = converts x
  calm_row form.Compare e = pops s.top.stack (λ v vs. pops vs (λ u rest. longs v (λ d. longs u (λ a. both_go _))))
  calm_row _ e = absurd (cc)

-- ---- how such an instruction runs in two worlds

-- both go on, or neither has a row
pub data Met (p : Program) (b : List Entry) (s : Entries) : Answer Entries → Answer Entries → Type 0 where
  met_go : (vs : List Value) → Met p b s (answer Go (moved p s vs)) (answer Go (under b (moved p s vs)))
  met_stuck : Met p b s stuck_row stuck_row

pub next_alike : {p : Program} {b : List Entry} {s : Entries} {x y : Answer Entries} → Met p b s x y → goes_with (under b s) y ≡ under b (goes_with s x)
next_alike (met_go vs) = refl
next_alike met_stuck = refl

-- the class is being initialised in both worlds, and its statics are alike
pub record Twin (p : Program) (c : ℕ) (u w : World) : Type 0 where
  pub left : at u (place.Init c) ≡ Running
  pub right : at w (place.Init c) ≡ Running
  pub own : HasOwn p c u w

pub record Alongside (p : Program) (c : ℕ) (b : List Entry) (s : Entries) (w : World) (q r : Ran (Answer Entries)) : Type 0 where
  pub met : Met p b s q.value r.value
  pub twin : Twin p c q.world r.world
  pub alone : OwnAlone p c w r.world

pub alone_itself : (p : Program) (c : ℕ) (w : World) → OwnAlone p c w w
alone_itself p c w = record { objects = refl; states = refl; files = refl; props = refl; statics = λ f n. refl }

alone_then : (p : Program) (c : ℕ) (u v w : World) → OwnAlone p c u v → OwnAlone p c v w → OwnAlone p c u w
alone_then p c u v w a d = record { objects = d.objects ∙ a.objects; states = d.states ∙ a.states; files = d.files ∙ a.files; props = d.props ∙ a.props; statics = λ f n. d.statics f n ∙ a.statics f n }

-- a run with one touch before its own
abbrev pub with_touch : {A : Type 0} → Touch → Ran A → Ran A
with_touch t r = record { sound = r.sound; value = r.value; world = r.world; touches = t ∷ r.touches; units = r.units }

-- a class that is being initialised may be used; its state is read
pub used : (p : Program) (c : ℕ) (s : Entries) (k : Access (Answer Entries)) (w : World) → is_trivial p c ≡ false → at w (place.Init c) ≡ Running →
    run (using p c s k) w ≡ with_touch (read_of (place.Init c) Running) (run k w)
unfolding begin
used p c s k w n e =
    ap (λ (x : Bool). run (bind (cond x (done ready) (read (place.Init c) (begun_at c s))) (once s k)) w) n
    ∙ ap (λ (x : InitState). with_touch (read_of (place.Init c) x) (run (bind (begun_at c s x) (once s k)) w)) e

module _ (p : Program) (c : ℕ) (n : is_trivial p c ≡ false) (b : List Entry) (s : Entries) (u w : World) (tw : Twin p c u w) where
  -- what touches nothing runs alike
  calm : {x y : Access (Answer Entries)} → Both p b s x y → Alongside p c b s w (run x u) (run y w)
  calm (both_go vs) = record { met = met_go vs; twin = tw; alone = alone_itself p c w }
  calm both_stuck = record { met = met_stuck; twin = tw; alone = alone_itself p c w }

  -- a static of the class is read
  reads : (f : ℕ) → (field_at p f).class ≡ c → Alongside p c b s w (run (read_static p f s) u) (run (read_static p f (under b s)) w)
  unfolding read_static
  reads f e = record {
    met = subst (λ (v : Value). Met p b s (answer Go (moved p s (at u (place.Static f) ∷ s.top.stack))) (answer Go (under b (moved p s (v ∷ s.top.stack))))) (sym (tw.own f e)) (met_go (at u (place.Static f) ∷ s.top.stack));
    twin = tw;
    alone = alone_itself p c w;
  }

  -- two worlds in which a static of the class is set
  set_twin : (f : ℕ) (v : Value) → Twin p c (put u (place.Static f) v) (put w (place.Static f) v)
  set_twin f v = record {
    left = tw.left;
    right = tw.right;
    own = λ g e. elim (cases_Bool (nat_eq g f)) [
      | inl q ↦ subst (λ (h : ℕ). at (put w (place.Static f) v) (place.Static h) ≡ at (put u (place.Static f) v) (place.Static h)) (sym (eqb-true g f q)) (at_put_same w (place.Static f) v refl ∙ sym (at_put_same u (place.Static f) v refl))
      | inr q ↦ at_put_other w (place.Static f) (place.Static g) v (apart g f q) ∙ (tw.own g e ∙ sym (at_put_other u (place.Static f) (place.Static g) v (apart g f q)))
    ];
  }
    where
      apart : (g f : ℕ) → nat_eq g f ≡ false → place.Static g ≢ place.Static f
      apart g f q e = same_false (place.Static g) (place.Static f) q e

  set_alone : (f : ℕ) (v : Value) → (field_at p f).class ≡ c → OwnAlone p c w (put w (place.Static f) v)
  set_alone f v e = record {
    objects = refl;
    states = refl;
    files = refl;
    props = refl;
    statics = λ g d. at_put_other w (place.Static f) (place.Static g) v (λ q. d (let z : g ≡ f = cc in ap (λ (h : ℕ). (field_at p h).class) z ∙ e));
  }

  sets_by : (f : ℕ) (vs : List Value) → (field_at p f).class ≡ c → Alongside p c b s w
      (run (popping vs (λ v us. write (place.Static f) (narrowed (field_at p f).descriptor v) (goes_on p s us))) u)
      (run (popping vs (λ v us. write (place.Static f) (narrowed (field_at p f).descriptor v) (goes_on p (under b s) us))) w)
  sets_by f [] e = record { met = met_stuck; twin = tw; alone = alone_itself p c w }
  sets_by f (v ∷ vs) e = let x = narrowed (field_at p f).descriptor v in record { met = met_go vs; twin = set_twin f x; alone = set_alone f x e }

  -- a static of the class is set
  sets : (f : ℕ) → (field_at p f).class ≡ c → Alongside p c b s w (run (write_static p f s) u) (run (write_static p f (under b s)) w)
  unfolding write_static
  sets f e = sets_by f s.top.stack e

  touched_alike : (t : Touch) {q r : Ran (Answer Entries)} → Alongside p c b s w q r → Alongside p c b s w (with_touch t q) (with_touch t r)
  touched_alike t a = record { met = a.met; twin = a.twin; alone = a.alone }

  uses : (d : ℕ) (k l : Access (Answer Entries)) → d ≡ c → Alongside p c b s w (run k u) (run l w) → Alongside p c b s w (run (using p d s k) u) (run (using p d (under b s) l) w)
  uses d k l e a =
      let m = subst (λ (x : ℕ). is_trivial p x ≡ false) (sym e) n in
      let i = subst (λ (x : ℕ). at u (place.Init x) ≡ Running) (sym e) tw.left in
      let j = subst (λ (x : ℕ). at w (place.Init x) ≡ Running) (sym e) tw.right in
      subst (λ (r : Ran (Answer Entries)). Alongside p c b s w (run (using p d s k) u) r) (sym (used p d (under b s) l w m j))
      (subst (λ (q : Ran (Answer Entries)). Alongside p c b s w q (with_touch (read_of (place.Init d) Running) (run l w))) (sym (used p d s k u m i)) (touched_alike (read_of (place.Init d) Running) a))

  own_row : (i : Instr) → is_own p c i ≡ true → Alongside p c b s w (run (row p i s) u) (run (row p i (under b s)) w)
  unfolding row row_statics
  own_row (form.GetStatic f) e = let q = eqb-true (field_at p f).class c e in uses (field_at p f).class (read_static p f s) (read_static p f (under b s)) q (reads f q)
  own_row (form.PutStatic f) e = let q = eqb-true (field_at p f).class c e in uses (field_at p f).class (write_static p f s) (write_static p f (under b s)) q (sets f q)
  own_row _ e = absurd (cc)

  pub still_row : (i : Instr) → (is_calm i || is_own p c i) ≡ true → Alongside p c b s w (run (row p i s) u) (run (row p i (under b s)) w)
  still_row i e = elim (or_cases (is_calm i) (is_own p c i) e) [
    | inl h ↦ calm (calm_row p b s i h)
    | inr h ↦ own_row i h
  ]

-- a return leaves the world as it was
hands_world : (k : EntryKind) (p : Program) (s : Entries) (w : World) → (run (handed_on k p [] s) w).world ≡ w
hands_world Absent p s w = refl
hands_world _ p s w = refl

pub end_world : (p : Program) (i : Instr) (s : Entries) (w : World) → is_end i ≡ true → (run (row p i s) w).world ≡ w
unfolding row row_return hands_on
end_world p (form.Return None) s w e = hands_world (popped_entry s).top.kind p (popped_entry s) w
end_world p _ s w e = absurd (cc)

-- ---- the whole code

pub record LeftAlike (p : Program) (c : ℕ) (w u v : World) : Type 0 where
  pub own : HasOwn p c u v
  pub alone : OwnAlone p c w v

module _ (p : Program) (c : ℕ) (n : is_trivial p c ≡ false) (b : List Entry) where
  pub code_alike : (xs : List Placed) (s : Entries) (u w : World) → is_still p c xs ≡ true → Twin p c u w → LeftAlike p c w (left_after p xs s u) (left_after p xs (under b s) w)
  code_alike [] s u w e tw = absurd (cc)
  code_alike (x ∷ []) s u w e tw =
      let i = end_world p x.form s u e in
      let j = end_world p x.form (under b s) w e in
      subst (λ (z : World). LeftAlike p c w z (run (row p x.form (under b s)) w).world) (sym i) (subst (λ (z : World). LeftAlike p c w u z) (sym j) (record { own = tw.own; alone = alone_itself p c w }))
  code_alike (x ∷ y ∷ ys) s u w e tw =
      let h = and_parts (is_calm x.form || is_own p c x.form) (is_still p c (y ∷ ys)) e in
      let a = still_row p c n b s u w tw x.form h.0 in
      let q = run (row p x.form s) u in
      let r = run (row p x.form (under b s)) w in
      let l = code_alike (y ∷ ys) (goes_with s q.value) q.world r.world h.1 a.twin in
      subst (λ (z : Entries). LeftAlike p c w (left_after p (y ∷ ys) (goes_with s q.value) q.world) (left_after p (y ∷ ys) z r.world)) (sym (next_alike a.met))
      (record { own = l.own; alone = alone_then p c w r.world (left_after p (y ∷ ys) (under b (goes_with s q.value)) r.world) a.alone l.alone })

-- ---- rows

pub met_rows : {p : Program} {b : List Entry} {s : Entries} {x y : Answer Entries} → Met p b s x y → x ≢ stuck_row → y ≢ stuck_row
met_rows (met_go vs) h e = absurd (cc)
met_rows met_stuck h e = h refl

hands_row : (k : EntryKind) (p : Program) (s : Entries) (w : World) → (run (handed_on k p [] s) w).value ≢ stuck_row
hands_row Absent p s w e = absurd (cc)
hands_row _ p s w e = absurd (cc)

pub end_row : (p : Program) (i : Instr) (s : Entries) (w : World) → is_end i ≡ true → (run (row p i s) w).value ≢ stuck_row
unfolding row row_return hands_on
end_row p (form.Return None) s w e = hands_row (popped_entry s).top.kind p (popped_entry s) w
end_row p _ s w e = absurd (cc)

-- the code has its rows in each such world
pub rows_alike : (p : Program) (c : ℕ) → is_trivial p c ≡ false → (b : List Entry) (xs : List Placed) (s : Entries) (u w : World) → is_still p c xs ≡ true → Twin p c u w → HaveRows p xs s u → HaveRows p xs (under b s) w
rows_alike p c n b [] s u w e tw h = tt
rows_alike p c n b (x ∷ []) s u w e tw h = (end_row p x.form (under b s) w e, tt)
rows_alike p c n b (x ∷ y ∷ ys) s u w e tw h =
    let g = and_parts (is_calm x.form || is_own p c x.form) (is_still p c (y ∷ ys)) e in
    let a = still_row p c n b s u w tw x.form g.0 in
    let q = run (row p x.form s) u in
    let r = run (row p x.form (under b s)) w in
    (met_rows a.met h.0, subst (λ (z : Entries). HaveRows p (y ∷ ys) z r.world) (sym (next_alike a.met)) (rows_alike p c n b (y ∷ ys) (goes_with s q.value) q.world r.world g.1 a.twin h.1))
