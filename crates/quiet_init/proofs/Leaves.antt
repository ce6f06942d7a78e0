-- What quiet initialisers leave, computed in one memory.
use Rattle.std.proofs.Common.{◌≡◌, ◌≢◌, ℕ, suc, ◌+◌, ◌<◌, ◌≤◌, List, [], ◌∷◌, ◌++◌, length, Bool, true, false, ◌&&◌, ◌||◌, cond, nat_eq, nat_lt, Option, Some, IfSome, refl, sym, ◌∙◌, ap, subst, inl, inr, All, arith}
use Rattle.std.proofs.lemmas.Bool.{and_parts, or_cases, eqb-true, eq-eqb, cases_Bool, cases_lt, lt-ltb, le-ltb, ltb-true}
use Rattle.std.proofs.{lemmas.List.get_or_past, Math.ListN.get_or-map, Math.ListN.length-map}
use Rattle.jvm_model.specs.declared.values.{InitState.TheVariants.Idle, InitState.TheVariants.Running, Value.Value, Value.TheVariants.Null}
use Rattle.jvm_model.specs.declared.values.Location.TheVariants as place
use Rattle.jvm_model.specs.declared.{outcome.Next.Next, instr.Instr.Instr, program.Body.Body, program.ClassRec.ClassRec, program.FieldRec.FieldRec}
use Rattle.jvm_model.specs.declared.outcome.Next.TheVariants.{Go}
use Rattle.jvm_model.specs.declared.instr.Instr.TheVariants as form
use Rattle.jvm_model.specs.{declared.program.Placed.Placed, declared.program.Program.Program, World.World, World.at, World.put}
use Rattle.jvm_model.specs.{Linked.IsMethod, Linked.NamesForm, Linked.NamesBody, Linked.NamesEntries, Narrow.narrowed, Step.row, Suite.opening}
use Rattle.jvm_model.specs.Access.{Access, done, write, read_of, Ran, run}
use Rattle.jvm_model.specs.Classes.{no_field, class_at, field_at, method_at, is_trivial, next_place}
use Rattle.jvm_model.specs.Entries.{Entry, Entries, no_entries, with_entry, entries_of, popped_entry, with_stack, with_place}
use Rattle.jvm_model.specs.RowsStatics.{read_static, write_static, row_statics}
use Rattle.jvm_model.specs.Rows.{Answer, answer, stuck_row, goes_on, popping}
use Rattle.jvm_model.specs.View.{IsSafe, IsRow, counted, ended, paid, counts_one, outcome}
use Rattle.jvm_model.proofs.{Ranges.length_put_at, Locations.at_put_same}
use Rattle.type_frames.specs.Typing.{IsTyped}
use Rattle.check_sound.specs.ReachLaw.{most_operands, puts}
use Rattle.check_sound.proofs.InitRows.{nontrivial_class}
use Rattle.vm_frames.specs.Stack.{HasRoom, frame_with}
use Rattle.vm_arith.specs.Pure.{HasRow, TouchesNothing, growth, IsStep}
use Rattle.vm_arith.proofs.Rows.{has_row}
use Rattle.quiet_init.specs.Leaving.{IsBegun, IsServed, CanDo, Does, CanDoAll, GoesCalmly, before_end, entered, HasPlaces, Leaves, AreLeft}
use Rattle.quiet_init.specs.Quiet.{is_calm, is_own, is_still, no_handler, is_still_body, starts_still, is_still_start, is_quiet, goes_with, left_after, begun_world, left_by_start, left_by_body, left_by}
use Rattle.quiet_init.specs.{StillLaw.HaveRows, StillLaw.HasOwn, Starts.IsStart}
use Rattle.quiet_init.proofs.Still.{moved, Both, both_go, both_stuck, calm_row, met_rows, Met, met_go, met_stuck, Twin, still_row, used, with_touch, code_alike}
use Rattle.quiet_init.proofs.{Ends.before_is, Ends.left_before, Lists.below_next, Rooms.room_of, Trivials.quiet_loud, Walk.AllReady, Walk.walked}

-- ---- one instruction

pub calm_pure : (i : Instr) → is_calm i ≡ true → TouchesNothing i
calm_pure form.Nop e = refl
calm_pure _ e = cc

pub grows : (i : Instr) → is_calm i ≡ true → growth i ≤ puts i
grows i e = by i
  where
    by : (i : Instr) → growth i ≤ puts i
    by (form.GetStatic f) = omega arith
    by _ = omega arith

module _ (p : Program) (s : Entries) (w : World) where
  safe : {x y : Access (Answer Entries)} → Both p s.below s x y → (run x w).value ≢ stuck_row → IsSafe IsRow x w
  safe (both_go vs) h = tt
  safe both_stuck h = absurd (h refl)

  -- a calm instruction that has its row has it in every program
  pub calm_there : (i : Instr) → is_calm i ≡ true → (run (row p i s) w).value ≢ stuck_row → HasRow i s
  calm_there i e h = has_row p w i s (calm_pure i e) (safe (calm_row p s.below s i e) h)

  pub still_world : {x y : Access (Answer Entries)} → Both p s.below s x y → (run x w).world ≡ w
  still_world (both_go vs) = refl
  still_world both_stuck = refl

  -- what a step of a calm instruction leaves
  ends : (b : Bool) (a : Answer Entries) → (n : ℕ) × (counted (paid b (done a)) w 1 ≡ ended a w n)
  ends true a = (0, refl)
  ends false a = (1, refl)

  left_by_go : (u : Entries) (n : ℕ) (a : Next) (t : Entries) (left : ℕ) → ended (answer Go u) w n ≡ outcome a t w left → u ≡ t
  left_by_go u n Go t left e = cc
  left_by_go u n _ t left e = absurd (cc)

  none_left : (n : ℕ) (a : Next) (t : Entries) (left : ℕ) → ended stuck_row w n ≡ outcome a t w left → ⊥
  none_left n Go t left e = cc
  none_left n _ t left e = cc

  stepped : {x y : Access (Answer Entries)} → Both p s.below s x y → (a : Next) (t : Entries) (left : ℕ) → counted (paid (counts_one p a) x) w 1 ≡ outcome a t w left → goes_with s (run x w).value ≡ t
  stepped (both_go vs) a t left e = let k = ends (counts_one p a) (answer Go (moved p s vs)) in left_by_go (moved p s vs) k.0 a t left (sym k.1 ∙ e)
  stepped both_stuck a t left e = let k = ends (counts_one p a) stuck_row in absurd (none_left k.0 a t left (sym k.1 ∙ e))

-- nor does it change what stands below
calm_below : {p : Program} {b : List Entry} {s : Entries} {x y : Access (Answer Entries)} (w : World) → Both p b s x y → (goes_with s (run x w).value).below ≡ s.below
calm_below w (both_go vs) = refl
calm_below w both_stuck = refl

pub calm_keeps : (p : Program) (i : Instr) (n : ℕ) (s t : Entries) (w : World) → is_calm i ≡ true → n ≡ next_place p s.top.number s.top.pc → GoesCalmly i n s t → t.below ≡ s.below
calm_keeps p i n s t w e q h = ap (λ (u : Entries). u.below) (sym (h p w (sym q))) ∙ calm_below w (calm_row p s.below s i e)

pub goes_calmly : (i : Instr) (n : ℕ) (a : Next) (s t : Entries) (left : ℕ) → is_calm i ≡ true → IsStep i n 1 a s t left → GoesCalmly i n s t
goes_calmly i n a s t left e h = λ p w q. stepped p s w (calm_row p s.below s i e) a t left (h p w q)

pub calm_does : (p : Program) (i : Instr) (n : ℕ) (s t : Entries) (w : World) → is_calm i ≡ true → n ≡ next_place p s.top.number s.top.pc → GoesCalmly i n s t → Does p i s w t w
calm_does p i n s t w e q h = record { entries = h p w (sym q); world = still_world p s w (calm_row p s.below s i e) }

module _ (p : Program) (f : ℕ) (w : World) (g : IsBegun p f w) where
  uses_read : (s : Entries) → run (row p (form.GetStatic f) s) w ≡ with_touch (read_of (place.Init (field_at p f).class) Running) (run (read_static p f s) w)
  unfolding row row_statics
  uses_read s = used p (field_at p f).class s (read_static p f s) w g.stateful g.running

  uses_write : (s : Entries) → run (row p (form.PutStatic f) s) w ≡ with_touch (read_of (place.Init (field_at p f).class) Running) (run (write_static p f s) w)
  unfolding row row_statics
  uses_write s = used p (field_at p f).class s (write_static p f s) w g.stateful g.running

  pub get_does : (s : Entries) (v : Value) (n : ℕ) → v ≡ at w (place.Static f) → n ≡ next_place p s.top.number s.top.pc → Does p (form.GetStatic f) s w (with_place (with_stack s (v ∷ s.top.stack)) n) w
  unfolding read_static
  get_does s v n e q = record {
    entries = ap (λ (r : Ran (Answer Entries)). goes_with s r.value) (uses_read s) ∙ (λ i. with_place (with_stack s (sym e i ∷ s.top.stack)) (sym q i));
    world = ap (λ (r : Ran (Answer Entries)). r.world) (uses_read s);
  }

  pub put_does : (s : Entries) (v x : Value) (n : ℕ) → x ≡ narrowed (field_at p f).descriptor v → n ≡ next_place p s.top.number s.top.pc →
      Does p (form.PutStatic f) (with_stack s (v ∷ s.top.stack)) w (with_place s n) (put w (place.Static f) x)
  unfolding write_static
  put_does s v x n e q = let u = with_stack s (v ∷ s.top.stack) in record {
    entries = ap (λ (r : Ran (Answer Entries)). goes_with u r.value) (uses_write u) ∙ (λ i. with_place s (sym q i));
    world = ap (λ (r : Ran (Answer Entries)). r.world) (uses_write u) ∙ (λ i. put w (place.Static f) (sym e i));
  }

  pub put_operand : (s : Entries) → (run (row p (form.PutStatic f) s) w).value ≢ stuck_row → 0 < length s.top.stack
  unfolding write_static
  put_operand s h = by s.top.stack (λ e. h (ap (λ (r : Ran (Answer Entries)). r.value) (uses_write s) ∙ e))
    where
      by : (vs : List Value) → (run (popping vs (λ v us. write (place.Static f) (narrowed (field_at p f).descriptor v) (goes_on p s us))) w).value ≢ stuck_row → 0 < length vs
      by [] h = absurd (h refl)
      by (v ∷ vs) h = omega arith

  -- statics keep their number
  put_places : (s : Entries) → HasPlaces p w → HasPlaces p (run (row p (form.PutStatic f) s) w).world
  unfolding write_static
  put_places s h = subst (λ (r : Ran (Answer Entries)). HasPlaces p r.world) (sym (uses_write s)) (by s.top.stack)
    where
      by : (vs : List Value) → HasPlaces p (run (popping vs (λ v us. write (place.Static f) (narrowed (field_at p f).descriptor v) (goes_on p s us))) w).world
      by [] = h
      by (v ∷ vs) = record { statics = length_put_at Null w.statics f (narrowed (field_at p f).descriptor v) g.there ∙ h.statics; states = h.states }

  get_places : (s : Entries) → HasPlaces p w → HasPlaces p (run (row p (form.GetStatic f) s) w).world
  unfolding read_static
  get_places s h = subst (λ (r : Ran (Answer Entries)). HasPlaces p r.world) (sym (uses_read s)) h

-- the operand that a putstatic takes is there
pub put_pops : (p : Program) (i : Instr) (f : ℕ) (s : Entries) (w : World) → i ≡ form.PutStatic f → CanDo p i s w → 0 < length s.top.stack
put_pops p i f s w e h = let k : CanDo p (form.PutStatic f) s w = subst (λ (j : Instr). CanDo p j s w) e h in put_operand p f w k.served s k.has_row

pub default_calm : (p : Program) (i : Instr) (w : World) → IsServed p i w → ((f : ℕ) → i ≢ form.GetStatic f) → ((f : ℕ) → i ≢ form.PutStatic f) → is_calm i ≡ true
default_calm p (form.GetStatic f) w h g k = absurd (g f refl)
default_calm p (form.PutStatic f) w h g k = absurd (k f refl)
default_calm p _ w h g k = h

pub calm_room : (i : Instr) (s : Entries) → is_calm i ≡ true → HasRoom (puts i) s → HasRoom (growth i) s
calm_room i s e h = let g = grows i e in omega arith

pub get_done : (p : Program) (i : Instr) (f : ℕ) (s : Entries) (w : World) (v : Value) (n : ℕ) (t : Entries) → i ≡ form.GetStatic f → CanDo p i s w → v ≡ at w (place.Static f) → n ≡ next_place p s.top.number s.top.pc → t ≡ with_place (with_stack s (v ∷ s.top.stack)) n → Does p i s w t w
get_done p i f s w v n t e h ev en et =
    let k : CanDo p (form.GetStatic f) s w = subst (λ (j : Instr). CanDo p j s w) e h in
    subst (λ (j : Instr). Does p j s w t w) (sym e) (subst (λ (z : Entries). Does p (form.GetStatic f) s w z w) (sym et) (get_does p f w k.served s v n ev en))

pub put_done : (p : Program) (i : Instr) (f : ℕ) (s u : Entries) (w z : World) (v x : Value) (n : ℕ) (t : Entries) → i ≡ form.PutStatic f → CanDo p i s w → s ≡ with_stack u (v ∷ u.top.stack) → x ≡ narrowed (field_at p f).descriptor v →
    n ≡ next_place p s.top.number s.top.pc → t ≡ with_place u n → z ≡ put w (place.Static f) x → Does p i s w t z
put_done p i f s u w z v x n t e h es ex en et ez =
    let k : CanDo p (form.PutStatic f) s w = subst (λ (j : Instr). CanDo p j s w) e h in
    let m : n ≡ next_place p u.top.number u.top.pc = en ∙ ap (λ (q : Entries). next_place p q.top.number q.top.pc) es in
    let d = put_does p f w k.served u v x n ex m in
    subst (λ (j : Instr). Does p j s w t z) (sym e) (subst (λ (q : Entries). Does p (form.PutStatic f) q w t z) (sym es)
    (subst (λ (q : Entries). Does p (form.PutStatic f) (with_stack u (v ∷ u.top.stack)) w q z) (sym et)
    (subst (λ (q : World). Does p (form.PutStatic f) (with_stack u (v ∷ u.top.stack)) w (with_place u n) q) (sym ez) d)))

-- ---- all of them

module _ (p : Program) (c : ℕ) (n : is_trivial p c ≡ false) where
  begun : (f : ℕ) (w : World) → (field_at p f).class ≡ c → f < length p.fields → HasPlaces p w → at w (place.Init c) ≡ Running → IsBegun p f w
  begun f w e l h i = record {
    there = let k = h.statics in omega arith;
    stateful = subst (λ (x : ℕ). is_trivial p x ≡ false) (sym e) n;
    running = subst (λ (x : ℕ). at w (place.Init x) ≡ Running) (sym e) i;
  }

  served : (i : Instr) (w : World) → (is_calm i || is_own p c i) ≡ true → NamesForm p i → HasPlaces p w → at w (place.Init c) ≡ Running → IsServed p i w
  served (form.GetStatic f) w e l h i = begun f w (eqb-true (field_at p f).class c e) l h i
  served (form.PutStatic f) w e l h i = begun f w (eqb-true (field_at p f).class c e) l h i
  served x w e l h i = elim (or_cases (is_calm x) false e) [ inl q ↦ q | inr q ↦ absurd (cc) ]

  same_next : {s : Entries} {x y : Answer Entries} → Met p s.below s x y → goes_with s y ≡ goes_with s x
  same_next (met_go vs) = refl
  same_next met_stuck = refl

  -- a calm instruction leaves the world as it was
  places_calm : (i : Instr) (s : Entries) (w : World) → is_calm i ≡ true → HasPlaces p w → HasPlaces p (run (row p i s) w).world
  places_calm i s w e h = subst (λ (v : World). HasPlaces p v) (sym (still_world p s w (calm_row p s.below s i e))) h

  own_places : (i : Instr) (s : Entries) (w : World) → is_own p c i ≡ true → IsServed p i w → HasPlaces p w → HasPlaces p (run (row p i s) w).world
  own_places (form.GetStatic f) s w e g h = get_places p f w g s h
  own_places (form.PutStatic f) s w e g h = put_places p f w g s h
  own_places _ s w e g h = absurd (cc)

  places_stay : (i : Instr) (s : Entries) (w : World) → (is_calm i || is_own p c i) ≡ true → IsServed p i w → HasPlaces p w → HasPlaces p (run (row p i s) w).world
  places_stay i s w e g h = elim (or_cases (is_calm i) (is_own p c i) e) [
    | inl q ↦ places_calm i s w q h
    | inr q ↦ own_places i s w q g h
  ]

  -- the room that each instruction but the last one needs is there
  abbrev pub HaveRooms : List Placed → Entries → World → Type 0
  HaveRooms [] s w = Unit {0}
  HaveRooms (x ∷ []) s w = Unit {0}
  HaveRooms (x ∷ y ∷ ys) s w = let r = run (row p x.form s) w in HasRoom (puts x.form) s × HaveRooms (y ∷ ys) (goes_with s r.value) r.world

  pub can_all : (xs : List Placed) (s : Entries) (u w : World) → is_still p c xs ≡ true → All (λ x. NamesForm p x.form) xs → Twin p c u w → HasPlaces p w → HaveRows p xs s u → HaveRooms xs s u → CanDoAll p (before_end xs) s w
  can_all [] s u w e l tw h rows rooms = tt
  can_all (x ∷ []) s u w e l tw h rows rooms = tt
  can_all (x ∷ y ∷ ys) s u w e l tw h rows rooms =
      let g = and_parts (is_calm x.form || is_own p c x.form) (is_still p c (y ∷ ys)) e in
      let a = still_row p c n s.below s u w tw x.form g.0 in
      let q = run (row p x.form s) u in
      let r = run (row p x.form s) w in
      let v = served x.form w g.0 (l 0 x (omega arith)) h tw.right in (
        record { served = v; has_row = met_rows a.met rows.0; room = rooms.0 },
        subst (λ (z : Entries). CanDoAll p (before_end (y ∷ ys)) z r.world) (sym (same_next a.met))
            (can_all (y ∷ ys) (goes_with s q.value) q.world r.world g.1 (λ k z m. l (suc k) z (omega arith)) a.twin (places_stay x.form s w g.0 v h) rows.1 rooms.1),
      )

  -- the places after all of them
  pub all_places : (xs : List Placed) (s : Entries) (u w : World) → is_still p c xs ≡ true → All (λ x. NamesForm p x.form) xs → Twin p c u w → HasPlaces p w → HasPlaces p (left_after p (before_end xs) s w)
  all_places [] s u w e l tw h = h
  all_places (x ∷ []) s u w e l tw h = h
  all_places (x ∷ y ∷ ys) s u w e l tw h =
      let g = and_parts (is_calm x.form || is_own p c x.form) (is_still p c (y ∷ ys)) e in
      let a = still_row p c n s.below s u w tw x.form g.0 in
      let q = run (row p x.form s) u in
      let r = run (row p x.form s) w in
      let v = served x.form w g.0 (l 0 x (omega arith)) h tw.right in
      all_places (y ∷ ys) (goes_with s r.value) q.world r.world g.1 (λ k z m. l (suc k) z (omega arith)) a.twin (places_stay x.form s w g.0 v h)

-- ---- a whole initialiser

module _ (p : Program) (ty : IsTyped p) (c m : ℕ) (n : is_trivial p c ≡ false) (hi : (class_at p c).initialiser ≡ Some m) (b : Body) (hb : (method_at p m).body ≡ Some b) (h : is_still p c b.code ≡ true) where
  rooms_of : b.max_stack ≤ most_operands → (xs : List Placed) (s : Entries) (w : World) → is_still p c xs ≡ true → AllReady p m xs s w → HaveRooms p c n xs s w
  rooms_of l [] s w e r = tt
  rooms_of l (x ∷ []) s w e r = tt
  rooms_of l (x ∷ y ∷ ys) s w e r =
      let g = and_parts (is_calm x.form || is_own p c x.form) (is_still p c (y ∷ ys)) e in
      let q = run (row p x.form s) w in
      (room_of p ty m b hb l s x.form r.0 r.1, rooms_of l (y ∷ ys) (goes_with s q.value) q.world g.1 r.2)

  -- the instructions name what is there
  names : All (λ x. NamesForm p x.form) b.code
  names = (subst (λ (o : Option Body). IfSome o (λ b. NamesBody p b)) hb (ty.linked.numbers.bodies m (there_of ty.linked.numbers))).forms
    where
      there_of : NamesEntries p → IsMethod p m
      there_of k = subst (λ (o : Option ℕ). IfSome o (λ m. IsMethod p m)) hi (k.classes c (nontrivial_class p ty.linked c n)).initialiser

  twin : (w : World) → at w (place.Init c) ≡ Running → HasOwn p c (begun_world p c) w → Twin p c (begun_world p c) w
  unfolding opening
  twin w i own = record { left = at_put_same (opening p) (place.Init c) Running refl; right = i; own = own }

  pub can_run : (w : World) → at w (place.Init c) ≡ Running → HasOwn p c (begun_world p c) w → HasPlaces p w → b.max_stack ≤ most_operands → CanDoAll p (before_end b.code) (entered m b) w
  can_run w i own places l = let k = walked p ty c m b n hi hb h in
      can_all p c n b.code (entered m b) (begun_world p c) w h names (twin w i own) places k.rows (rooms_of l b.code (entered m b) (begun_world p c) h k.ready)

  pub leaves : (u w v : World) → w ≡ put u (place.Init c) Running → at w (place.Init c) ≡ Running → HasOwn p c (begun_world p c) w → HasPlaces p w → left_after p (before_end b.code) (entered m b) w ≡ v → Leaves p c u v
  unfolding left_by
  leaves u w v e i own places q =
      let t = code_alike p c n [] b.code (entered m b) (begun_world p c) w h (twin w i own) in
      let l : left_by p c ≡ left_after p b.code (entered m b) (begun_world p c) = ap (λ (z : Option ℕ). left_by_start p c z) hi ∙ ap (λ (z : Option Body). left_by_body p c m z) hb in
      let z : left_after p b.code (entered m b) w ≡ v = sym (left_before p c b.code (entered m b) w h) ∙ q in
      record {
        places = subst (λ (x : World). HasPlaces p x) q (all_places p c n b.code (entered m b) (begun_world p c) w h names (twin w i own) places);
        own = λ f k. ap (λ (x : World). at x (place.Static f)) (sym z) ∙ (t.own f k ∙ ap (λ (x : World). at x (place.Static f)) (sym l));
        others = λ f k. ap (λ (x : World). at x (place.Static f)) (sym z) ∙ (t.alone.statics f k ∙ ap (λ (x : World). at x (place.Static f)) e);
      }

-- ---- a class, begun in a world in which its statics have their opening values

module _ (p : Program) (ty : IsTyped p) (c : ℕ) (q : is_quiet p c ≡ true) where
  loud : is_trivial p c ≡ false
  loud = quiet_loud p c q

  pub quiet_there : c < length p.classes
  quiet_there = nontrivial_class p ty.linked c loud

  still_start : is_still_start p c ≡ true
  unfolding is_quiet
  still_start = (and_parts (is_still_start p c) _ q).0

  pub never_unstarted : is_still_start p c ≡ false → ⊥
  never_unstarted e = let z : true ≡ false = sym still_start ∙ e in cc

  still_code : (m : ℕ) (b : Body) → (class_at p c).initialiser ≡ Some m → (method_at p m).body ≡ Some b → is_still p c b.code ≡ true
  still_code m b hi hb =
      let h : is_still_body p c (Some b) ≡ true = ap (λ (o : Option Body). is_still_body p c o) (sym hb) ∙ (ap (λ (o : Option ℕ). starts_still p c o) (sym hi) ∙ still_start) in
      (and_parts (no_handler b.handlers) (is_still p c b.code) h).1

  module _ (u w : World) (e : w ≡ put u (place.Init c) Running) (places : HasPlaces p u) (own : HasOwn p c (begun_world p c) u) where
    running : at w (place.Init c) ≡ Running
    running = ap (λ (z : World). at z (place.Init c)) e ∙ at_put_same u (place.Init c) Running refl

    begun_places : HasPlaces p w
    begun_places = subst (λ (z : World). HasPlaces p z) (sym e) (record { statics = places.statics; states = length_put_at Idle u.states c Running (let t = quiet_there in let k = places.states in omega arith) ∙ places.states })

    begun_own : HasOwn p c (begun_world p c) w
    begun_own f k = ap (λ (z : World). at z (place.Static f)) e ∙ own f k

    pub start_can : (m : ℕ) (b : Body) → IsStart p c m b → b.max_stack ≤ most_operands → CanDoAll p (before_end b.code) (entered m b) w
    start_can m b h l = can_run p ty c m loud h.0 b h.1 (still_code m b h.0 h.1) w running begun_own begun_places l

    pub start_leaves : (m : ℕ) (b : Body) (v : World) → IsStart p c m b → left_after p (before_end b.code) (entered m b) w ≡ v → Leaves p c u v
    start_leaves m b v h k = leaves p ty c m loud h.0 b h.1 (still_code m b h.0 h.1) u w v e running begun_own begun_places k

-- ---- class after class

module _ (p : Program) where
  pub left_first : AreLeft p 0 (opening p)
  unfolding opening
  left_first = record {
    places = record { statics = length-map p.fields (λ (x : FieldRec). x.opening); states = length-map p.classes (λ (x : ClassRec). Idle) };
    values = λ f h. get_or-map (λ (x : FieldRec). x.opening) p.fields f no_field ∙ sym (ap (λ (b : Bool). cond (b && is_quiet p (field_at p f).class) (at (left_by p (field_at p f).class) (place.Static f)) (field_at p f).opening) (le-ltb (field_at p f).class 0 (omega arith)));
  }

  module _ (c : ℕ) (u : World) (l : AreLeft p c u) where
    pub opened_own : HasOwn p c (begun_world p c) u
    unfolding opening
    opened_own f e = elim (cases_lt f (length p.fields)) [
      | inl h ↦ l.values f h ∙ (ap (λ (b : Bool). cond (b && is_quiet p (field_at p f).class) (at (left_by p (field_at p f).class) (place.Static f)) (field_at p f).opening) (below e) ∙ sym (get_or-map (λ (x : FieldRec). x.opening) p.fields f no_field))
      | inr h ↦ get_or_past u.statics f Null (let k = l.places.statics in omega arith) ∙ sym (get_or_past (opening p).statics f Null (let k = length-map p.fields (λ (x : FieldRec). x.opening) in omega arith))
    ]
      where
        below : (field_at p f).class ≡ c → nat_lt (field_at p f).class c ≡ false
        below e = elim (cases_Bool (nat_lt (field_at p f).class c)) [ inr z ↦ z | inl z ↦ absurd (let k = ltb-true (field_at p f).class c z in omega arith) ]

    others_stay : (d : ℕ) (s : Bool) (x y : Value) → nat_eq d c ≡ false → cond (nat_lt d (c + 1) && s) x y ≡ cond (nat_lt d c && s) x y
    others_stay d s x y q = ap (λ (b : Bool). cond (b && s) x y) (below_next d c q)

    the_class : (d : ℕ) (s : Bool) (x y : Value) → nat_eq d c ≡ true → cond (nat_lt d (c + 1) && s) x y ≡ cond s x y
    the_class d s x y q = ap (λ (b : Bool). cond (b && s) x y) (lt-ltb d (c + 1) (let e = eqb-true d c q in omega arith))

    before_class : (d : ℕ) (s : Bool) (x y : Value) → nat_eq d c ≡ true → cond (nat_lt d c && s) x y ≡ y
    before_class d s x y q = ap (λ (b : Bool). cond (b && s) x y) (le-ltb d c (let e = eqb-true d c q in omega arith))

    pub left_over : is_quiet p c ≡ false → AreLeft p (c + 1) u
    left_over n = record {
      places = l.places;
      values = λ f h. let d = (field_at p f).class in let x = at (left_by p d) (place.Static f) in let y = (field_at p f).opening in l.values f h ∙ sym (elim (cases_Bool (nat_eq d c)) [
        | inl q ↦ the_class d (is_quiet p d) x y q ∙ (ap (λ (b : Bool). cond b x y) (ap (λ (k : ℕ). is_quiet p k) (eqb-true d c q) ∙ n) ∙ sym (before_class d (is_quiet p d) x y q))
        | inr q ↦ others_stay d (is_quiet p d) x y q
      ]);
    }

    pub left_more : (w : World) → is_quiet p c ≡ true → Leaves p c u w → AreLeft p (c + 1) w
    left_more w t k = record {
      places = k.places;
      values = λ f h. let d = (field_at p f).class in let x = at (left_by p d) (place.Static f) in let y = (field_at p f).opening in elim (cases_Bool (nat_eq d c)) [
        | inl q ↦ k.own f (eqb-true d c q) ∙ (ap (λ (j : ℕ). at (left_by p j) (place.Static f)) (sym (eqb-true d c q)) ∙ sym (the_class d (is_quiet p d) x y q ∙ ap (λ (b : Bool). cond b x y) (ap (λ (j : ℕ). is_quiet p j) (eqb-true d c q) ∙ t)))
        | inr q ↦ k.others f (λ e. let z : true ≡ false = sym (eq-eqb d c e) ∙ q in cc) ∙ (l.values f h ∙ sym (others_stay d (is_quiet p d) x y q))
      ];
    }

-- ---- a body that is entered above no other entry

module _ (p : Program) (m : ℕ) (b : Body) (code before : List Placed) (x : Placed) (s t : Entries) (w : World) where
  code_before : code ≡ b.code → code ≡ before ++ x ∷ [] → before_end b.code ≡ before
  code_before e f = ap (λ (xs : List Placed). before_end xs) (sym e ∙ f) ∙ before_is before x

  frame_on : t ≡ no_entries → s ≡ with_entry (frame_with b.max_locals m []) t → entered m b ≡ s
  frame_on e f = sym (f ∙ ap (λ (u : Entries). with_entry (frame_with b.max_locals m []) u) e)

  pub entered_can : (k : ℕ) → (b.max_stack ≤ most_operands → CanDoAll p (before_end b.code) (entered m b) w) → k ≡ b.max_stack → k < 65536 → code ≡ b.code → code ≡ before ++ x ∷ [] → t ≡ no_entries → s ≡ with_entry (frame_with b.max_locals m []) t → CanDoAll p before s w
  entered_can k h ek lk e f et es = subst (λ (xs : List Placed). CanDoAll p xs s w) (code_before e f) (subst (λ (u : Entries). CanDoAll p (before_end b.code) u w) (frame_on et es) (h (omega arith)))

  pub entered_leaves : (v : World) → code ≡ b.code → code ≡ before ++ x ∷ [] → t ≡ no_entries → s ≡ with_entry (frame_with b.max_locals m []) t → left_after p before s w ≡ v → left_after p (before_end b.code) (entered m b) w ≡ v
  entered_leaves v e f et es h = (λ i. left_after p (code_before e f i) (frame_on et es i) w) ∙ h

  -- and is taken off again
  pub empty_again : (u z : Entries) → u.below ≡ s.below → t ≡ no_entries → s ≡ with_entry (frame_with b.max_locals m []) t → z ≡ popped_entry u → z ≡ no_entries
  empty_again u z h et es ez = ez ∙ (ap (λ (bs : List Entry). entries_of bs) h ∙ ap (λ (v : Entries). popped_entry v) (sym (frame_on et es)))
