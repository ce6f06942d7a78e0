-- A step on the initialisation entry of a class that isn't hushed: in the one run hushed parts are begun or passed over, in the other
-- there are none.
use Rattle.std.proofs.Common.{◌≡◌, ℕ, ◌+◌, ◌≤◌, List, [], ◌∷◌, filter, Bool, true, false, not, cond, nat_eq, Option, Some, None, refl, sym, ◌∙◌, ap, subst, inl, inr, arith}
use Rattle.std.proofs.lemmas.Bool.{eqb-true, eq-eqb}
use Rattle.jvm_model.specs.declared.values.{Value.Value, InitState.InitState}
use Rattle.jvm_model.specs.declared.values.InitState.TheVariants.{Idle, Running, Done, Erroneous}
use Rattle.jvm_model.specs.declared.values.Location.TheVariants as place
use Rattle.jvm_model.specs.declared.{values.Touch.Touch, outcome.Next.TheVariants.Go, program.Body.Body, program.ClassRec.ClassRec, program.Program.Program}
use Rattle.jvm_model.specs.declared.state.{EntryKind.EntryKind, EntryKind.TheVariants.InClass}
use Rattle.jvm_model.specs.{World.World, World.at, Builtin.no_class_error, Builtin.stack_overflow_error, Linked.Linked, State.State, State.Turn}
use Rattle.jvm_model.specs.Access.{Access, done, write, spend, bind, read_of, Ran, run}
use Rattle.jvm_model.specs.Classes.{class_at, method_at, is_interface, is_trivial}
use Rattle.jvm_model.specs.Entries.{Entries, class_entry, frame_of, frame_cost, is_full, with_entry}
use Rattle.jvm_model.specs.Initialise.{Part, parts_of, with_entered, starts_body, starts, looked_at, looks, finishing, row_finish, row_fail}
use Rattle.jvm_model.specs.{Rows.Answer, Rows.answer, Rows.none_here, Rows.faults, Step.after_row}
use Rattle.order_law.specs.{Pairing.PairedOption, Pairing.both_none, Pairing.both_some, Numbers.Tested, Numbers.same_numbers}
use Rattle.order_law.proofs.{States.class_top, Combinators.V, Combinators.stuck_row-paired}
use Rattle.order_law.proofs.Steps.{States, starts-paired, looked-paired, finished-paired, fail-paired}
use Rattle.check_sound.proofs.{Light.light, PacedCreate.cut, PacedRows.none, PacedInit.EntryAllowed, PacedInit.finish-paced, PacedInit.fail-paced}
use Rattle.check_sound.proofs.Paced.{either, paced_done, paced_write, paced_spend, PacedRow}
use Rattle.quiet_init.specs.Quiet.{is_quiet, quiet}
use Rattle.quiet_init.proofs.{Beside.IsHushed, Beside.Beside, Going.Among, Hushes.Sound, Hushes.kept_part, Parts.class_is, PartsKept.parts_kept}
use Rattle.quiet_init.proofs.{Still.with_touch, Trivials.quiet_loud, Trivials.quiet_trivial}
use Rattle.quiet_law.proofs.{Together.Equal, Clear.clear, Clear.Locked, Plain.twins, Here.RowsOut}
use Rattle.quiet_law.proofs.Use.{Met, Out, locked, begins, no_room, as_left, rows_alike, rows_out}

-- ---- one touch more, and a lower price

-- the second run does as the first, and costs no more
pub record IsCheaper {A : Type 0} (q r : Ran A) : Type 0 where
  pub value : q.value ≡ r.value
  pub world : q.world ≡ r.world
  pub units : r.units ≤ q.units
  pub sound : q.sound ≡ true → r.sound ≡ true

as_right : (p : Program) {A B : Type 0} {Q : A → B → Type 0} {r : Ran A} {x q : Ran B} → IsCheaper x q → Locked p Q r x → Locked p Q r q
as_right p {Q = Q} {r = r} {x = x} {q = q} i l = record {
  value = subst (λ z. Q r.value z) i.value l.value;
  world = subst (λ (z : World). Beside p Equal r.world z) i.world l.world;
  units = (let m = l.units in let n = i.units in omega arith);
  sound = i.sound l.sound;
}

module _ (p : Program) (s : State) (w : World) where
  pub out_left : {r x : Ran Turn} (ts : Touch) (q : Ran Turn) → r ≡ with_touch ts x → Out p s w x q → Out p s w r q
  out_left {r = r} {x = x} ts q e (locked l) = locked (let u = ap (λ (z : Ran Turn). z.units) e in as_left p (ap (λ (z : Ran Turn). z.value) e) (ap (λ (z : Ran Turn). z.world) e) (omega arith) l)
  out_left ts q e (begins b) = begins (record { class = b.class; hushed = b.hushed; idle = b.idle; value = ap (λ (z : Ran Turn). z.value) e ∙ b.value; world = ap (λ (z : Ran Turn). z.world) e ∙ b.world })
  out_left ts q e (no_room f g) = no_room (ap (λ (z : Ran Turn). z.value) e ∙ f) (ap (λ (z : Ran Turn). z.world) e ∙ g)

  pub out_right : {r x q : Ran Turn} → IsCheaper x q → Out p s w r x → Out p s w r q
  out_right i (locked l) = locked (as_right p i l)
  out_right i (begins b) = begins b
  out_right i (no_room f g) = no_room f g

touched_rest : {q x : Ran Turn} (ts : Touch) → q ≡ with_touch ts x → IsCheaper x q
touched_rest {q = q} {x = x} ts e = record {
  value = sym (ap (λ (z : Ran Turn). z.value) e);
  world = sym (ap (λ (z : Ran Turn). z.world) e);
  units = (let u = ap (λ (z : Ran Turn). z.units) e in omega arith);
  sound = λ k. ap (λ (z : Ran Turn). z.sound) e ∙ k;
}

module _ (p : Program) (s : Entries) (v : World) (k : Answer Entries → Access Turn) (m n : ℕ) (le : m ≤ n) where
  body_cheaper : (o : Option Body) (x : ℕ) → IsCheaper (run (bind (starts_body o x n s) k) v) (run (bind (starts_body o x m s) k) v)
  body_cheaper None x = record { value = refl; world = refl; units = omega arith; sound = λ e. e }
  body_cheaper (Some b) x = by (is_full s)
    where
      by : (f : Bool) → IsCheaper (run (bind (cond f (spend n (faults stack_overflow_error s)) (spend (n + frame_cost b) (done (answer Go (with_entry (frame_of b x []) (with_entered s)))))) k) v)
          (run (bind (cond f (spend m (faults stack_overflow_error s)) (spend (m + frame_cost b) (done (answer Go (with_entry (frame_of b x []) (with_entered s)))))) k) v)
      by true = record { value = refl; world = refl; units = omega arith; sound = λ e. e }
      by false = record { value = refl; world = refl; units = omega arith; sound = λ e. e }

  starts_cheaper : (o : Option ℕ) → IsCheaper (run (bind (starts p o n s) k) v) (run (bind (starts p o m s) k) v)
  starts_cheaper None = record { value = refl; world = refl; units = omega arith; sound = λ e. e }
  starts_cheaper (Some x) = body_cheaper (method_at p x).body x

  looked_cheaper : (c : ℕ) (st : InitState) → IsCheaper (run (bind (looked_at c n s none_here st) k) v) (run (bind (looked_at c m s none_here st) k) v)
  looked_cheaper c Idle = by (is_full s)
    where
      by : (f : Bool) → IsCheaper (run (bind (cond f (spend n (faults stack_overflow_error s)) (spend n (write (place.Init c) Running (done (answer Go (with_entry (class_entry c) s)))))) k) v)
          (run (bind (cond f (spend m (faults stack_overflow_error s)) (spend m (write (place.Init c) Running (done (answer Go (with_entry (class_entry c) s)))))) k) v)
      by true = record { value = refl; world = refl; units = omega arith; sound = λ e. e }
      by false = record { value = refl; world = refl; units = omega arith; sound = λ e. e }
  looked_cheaper c _ = record { value = refl; world = refl; units = omega arith; sound = λ e. e }

-- ---- what is touched

module _ (p : Program) (lk : Linked p) (w : World) (n : ℕ) (s : Entries) where
  body_paced : (o : Option Body) (m : ℕ) → PacedRow p (clear p w) 4 0 (starts_body o m n s)
  body_paced None m = paced_done none
  body_paced (Some b) m = either (is_full s) (paced_spend (paced_done (omega arith, light p lk stack_overflow_error (omega arith)))) (paced_spend (paced_done (omega arith, tt)))

  starts_paced : (o : Option ℕ) → PacedRow p (clear p w) 4 0 (starts p o n s)
  starts_paced None = paced_spend (paced_done (omega arith, tt))
  starts_paced (Some m) = body_paced (method_at p m).body m

  looked_paced : (c : ℕ) → (IsHushed p c → ⊥) → (st : InitState) → PacedRow p (clear p w) 4 0 (looked_at c n s none_here st)
  looked_paced c m Idle = either (is_full s) (paced_spend (paced_done (omega arith, light p lk stack_overflow_error (omega arith)))) (paced_spend (paced_write m (paced_done (omega arith, tt))))
  looked_paced c m Erroneous = paced_spend (paced_done (omega arith, light p lk no_class_error (omega arith)))
  looked_paced c m _ = paced_done none

-- ---- the parts of a class

-- each of these parts has a state
abbrev Stated : Program → List Part → Type 0
Stated p xs = (x : Part) → Among x xs → is_trivial p x.class ≡ false

parts_stated : (p : Program) (c : ℕ) → Stated p (parts_of p c)
unfolding parts_of
parts_stated p c x = by (is_interface (class_at p c).flags) _ (λ i. (kept_part p _ x i).0)
  where
    by : (b : Bool) (xs : List Part) → (Among x xs → is_trivial p x.class ≡ false) → Among x (cond b [] xs) → is_trivial p x.class ≡ false
    by true xs h i = absurd i
    by false xs h i = h i

-- those that are no hushed ones
abbrev heard : Program → List Part → List Part
heard p xs = filter (λ x. not (is_trivial (quiet p) x.class)) xs

self_option : (o : Option ℕ) → PairedOption (Tested same_numbers.method) o o
self_option None = both_none
self_option (Some m) = both_some (eq-eqb m m refl)

module _ (p : Program) (sd : Sound p) (c : ℕ) (loud : IsHushed p c → ⊥) where
  -- a class that isn't hushed has its initialiser still
  start_kept : (class_at (quiet p) c).initialiser ≡ (class_at p c).initialiser
  start_kept = ap (λ (x : ClassRec). x.initialiser) (class_is p c) ∙ by (is_quiet p c) refl
    where
      by : (b : Bool) → is_quiet p c ≡ b → (cond b (record (class_at p c) { initialiser = None }) (class_at p c)).initialiser ≡ (class_at p c).initialiser
      by true e = absurd (loud (quiet_loud p c e, quiet_trivial p sd c e))
      by false e = refl

  same_start : (d : ℕ) → nat_eq c d ≡ true → PairedOption (Tested same_numbers.method) (class_at p c).initialiser (class_at (quiet p) d).initialiser
  same_start d e = subst (λ (z : Option ℕ). PairedOption (Tested same_numbers.method) (class_at p c).initialiser z) (sym start_kept ∙ ap (λ (z : ℕ). (class_at (quiet p) z).initialiser) (eqb-true c d e)) (self_option (class_at p c).initialiser)

module _ (p : Program) (sd : Sound p) (s t : State) (w v : World) (o : States (twins p sd.linked) s t) (bs : Beside p Equal w v) (k : Bool) (hk : s.entries.top.kind ≡ InClass k) (loud : IsHushed p s.entries.top.number → ⊥) where
  abbrev lk : Linked p
  lk = sd.linked

  abbrev Both : Access (Answer Entries) → Access (Answer Entries) → Type 0
  Both a b = RowsOut p lk s t w v o bs a b

  number : nat_eq s.entries.top.number t.entries.top.number ≡ true
  number = class_top same_numbers (λ a b. a ≡ b) o.entries hk

  -- all parts are passed over
  at_end : (n m : ℕ) → m ≤ n → Both (starts p (class_at p s.entries.top.number).initialiser n s.entries) (starts (quiet p) (class_at (quiet p) t.entries.top.number).initialiser m t.entries)
  at_end n m le ok = out_right p s w (starts_cheaper (quiet p) t.entries v (after_row (quiet p) t) m n le (class_at (quiet p) t.entries.top.number).initialiser)
      (rows_out p lk s t w v o bs (starts-paired (twins p lk) n n (same_start p sd s.entries.top.number loud t.entries.top.number number) refl o.entries hk) (cut p lk _ (starts_paced p lk w n s.entries (class_at p s.entries.top.number).initialiser)) ok)

  -- the run that looks at one more part, by what it finds
  abbrev looking : Program → State → Part → ℕ → Access (Answer Entries) → InitState → Access Turn
  looking q u x n rest st = bind (looked_at x.class (n + x.price) u.entries rest st) (after_row q u)

  hushed_part : (x : Part) (xs : List Part) (n : ℕ) (q : Ran Turn) → IsHushed p x.class → (run (bind (looks p (x ∷ xs) n s.entries) (after_row p s)) w).sound ≡ true →
      ((run (bind (looks p xs (n + x.price) s.entries) (after_row p s)) w).sound ≡ true → Out p s w (run (bind (looks p xs (n + x.price) s.entries) (after_row p s)) w) q) → Out p s w (run (bind (looks p (x ∷ xs) n s.entries) (after_row p s)) w) q
  hushed_part x xs n q h ok more = elim (bs.hushed x.class h) [ inl i ↦ out_left p s w (read_of (place.Init x.class) Idle) q (found Idle i) (idle i (is_full s.entries) refl) | inr i ↦ (let z = found Done i in out_left p s w (read_of (place.Init x.class) Done) q z (more (sym (ap (λ (y : Ran Turn). y.sound) z) ∙ ok))) ]
    where
      found : (st : InitState) → at w (place.Init x.class) ≡ st → run (bind (looks p (x ∷ xs) n s.entries) (after_row p s)) w ≡ with_touch (read_of (place.Init x.class) st) (run (looking p s x n (looks p xs (n + x.price) s.entries) st) w)
      found st e = ap (λ (y : InitState). with_touch (read_of (place.Init x.class) y) (run (looking p s x n (looks p xs (n + x.price) s.entries) y) w)) e

      idle : at w (place.Init x.class) ≡ Idle → (b : Bool) → is_full s.entries ≡ b → Out p s w (run (looking p s x n (looks p xs (n + x.price) s.entries) Idle) w) q
      idle i b f = subst (λ (y : Bool). Out p s w (run (bind (cond y (spend (n + x.price) (faults stack_overflow_error s.entries)) (spend (n + x.price) (write (place.Init x.class) Running (done (answer Go (with_entry (class_entry x.class) s.entries)))))) (after_row p s)) w) q) (sym f) (by b)
        where
          by : (y : Bool) → Out p s w (run (bind (cond y (spend (n + x.price) (faults stack_overflow_error s.entries)) (spend (n + x.price) (write (place.Init x.class) Running (done (answer Go (with_entry (class_entry x.class) s.entries)))))) (after_row p s)) w) q
          by true = no_room refl refl
          by false = begins (record { class = x.class; hushed = h; idle = i; value = refl; world = refl })

  heard_part : (x : Part) (xs ys : List Part) (n m : ℕ) → m ≤ n → (IsHushed p x.class → ⊥) → (run (bind (looks p (x ∷ xs) n s.entries) (after_row p s)) w).sound ≡ true → Both (looks p xs (n + x.price) s.entries) (looks (quiet p) ys (m + x.price) t.entries) →
      Out p s w (run (bind (looks p (x ∷ xs) n s.entries) (after_row p s)) w) (run (bind (looks (quiet p) (x ∷ ys) m t.entries) (after_row (quiet p) t)) v)
  heard_part x xs ys n m le nh ok more = by (at w (place.Init x.class)) refl (sym (bs.alike (place.Init x.class) nh))
    where
      stops : (st : InitState) → (run (looking p s x n none_here st) w).sound ≡ true → Out p s w (run (looking p s x n none_here st) w) (run (looking (quiet p) t x m none_here st) v)
      stops st k = out_right p s w (looked_cheaper (quiet p) t.entries v (after_row (quiet p) t) (m + x.price) (n + x.price) (omega arith) x.class st)
          (rows_out p lk s t w v o bs (looked-paired (twins p lk) x.class x.class (n + x.price) (n + x.price) st (eq-eqb x.class x.class refl) refl o.entries (stuck_row-paired (twins p lk))) (cut p lk _ (looked_paced p lk w (n + x.price) s.entries x.class nh st)) k)

      found : (st : InitState) → at w (place.Init x.class) ≡ st → run (bind (looks p (x ∷ xs) n s.entries) (after_row p s)) w ≡ with_touch (read_of (place.Init x.class) st) (run (looking p s x n (looks p xs (n + x.price) s.entries) st) w)
      found st e = ap (λ (y : InitState). with_touch (read_of (place.Init x.class) y) (run (looking p s x n (looks p xs (n + x.price) s.entries) y) w)) e

      found_too : (st : InitState) → at v (place.Init x.class) ≡ st → run (bind (looks (quiet p) (x ∷ ys) m t.entries) (after_row (quiet p) t)) v ≡ with_touch (read_of (place.Init x.class) st) (run (looking (quiet p) t x m (looks (quiet p) ys (m + x.price) t.entries) st) v)
      found_too st e = ap (λ (y : InitState). with_touch (read_of (place.Init x.class) y) (run (looking (quiet p) t x m (looks (quiet p) ys (m + x.price) t.entries) y) v)) e

      -- one touch more on each side
      over : (st : InitState) → at w (place.Init x.class) ≡ st → at v (place.Init x.class) ≡ at w (place.Init x.class) →
          ((run (looking p s x n (looks p xs (n + x.price) s.entries) st) w).sound ≡ true → Out p s w (run (looking p s x n (looks p xs (n + x.price) s.entries) st) w) (run (looking (quiet p) t x m (looks (quiet p) ys (m + x.price) t.entries) st) v)) →
          Out p s w (run (bind (looks p (x ∷ xs) n s.entries) (after_row p s)) w) (run (bind (looks (quiet p) (x ∷ ys) m t.entries) (after_row (quiet p) t)) v)
      over st e g f = let z = found st e in out_left p s w (read_of (place.Init x.class) st) _ z (out_right p s w (touched_rest (read_of (place.Init x.class) st) (found_too st (g ∙ e))) (f (sym (ap (λ (y : Ran Turn). y.sound) z) ∙ ok)))

      by : (st : InitState) → at w (place.Init x.class) ≡ st → at v (place.Init x.class) ≡ at w (place.Init x.class) → Out p s w (run (bind (looks p (x ∷ xs) n s.entries) (after_row p s)) w) (run (bind (looks (quiet p) (x ∷ ys) m t.entries) (after_row (quiet p) t)) v)
      by Running e g = over Running e g more
      by Done e g = over Done e g more
      by st e g = over st e g (stops st)

  looks_out : (xs : List Part) → Stated p xs → (n m : ℕ) → m ≤ n → Both (looks p xs n s.entries) (looks (quiet p) (heard p xs) m t.entries)
  looks_out [] l n m le = at_end n m le
  looks_out (x ∷ xs) l n m le = λ ok. by (is_trivial (quiet p) x.class) refl (λ j h. looks_out xs (λ y i. l y (inr i)) (n + x.price) j h) ok
    where
      by : (b : Bool) → is_trivial (quiet p) x.class ≡ b → ((j : ℕ) → j ≤ n + x.price → Both (looks p xs (n + x.price) s.entries) (looks (quiet p) (heard p xs) j t.entries)) →
          Both (looks p (x ∷ xs) n s.entries) (looks (quiet p) (cond (not b) (x ∷ heard p xs) (heard p xs)) m t.entries)
      by true e more ok = hushed_part x xs n _ (l x (inl refl), e) ok (more m (omega arith))
      by false e more ok = heard_part x xs (heard p xs) n m le (λ h. absurd (let z : true ≡ false = sym h.1 ∙ e in cc)) ok (more (m + x.price) (omega arith))

  -- ---- the step on the entry

  finish_is : (q : Program) (es : Entries) (b : Bool) → es.top.kind ≡ InClass b → row_finish q es ≡ finishing (InClass b) q es
  unfolding row_finish
  finish_is q es b e = ap (λ (x : EntryKind). finishing x q es) e

  entry_out : (b : Bool) → s.entries.top.kind ≡ InClass b → Both (finishing (InClass b) p s.entries) (finishing (InClass b) (quiet p) t.entries)
  entry_out true e = rows_out p lk s t w v o bs (finished-paired (twins p lk) o.entries hk)
      (cut p lk _ (subst (λ (z : Access (Answer Entries)). PacedRow p (clear p w) 4 0 z) (finish_is p s.entries true e) (finish-paced p lk s.entries (subst (λ (x : EntryKind). EntryAllowed p (clear p w) x s.entries.top.number) (sym e) loud))))
  entry_out false e = subst (λ (xs : List Part). Both (looks p (parts_of p s.entries.top.number) 0 s.entries) (looks (quiet p) xs 0 t.entries)) (sym (parts_kept p s.entries.top.number) ∙ ap (λ (z : ℕ). parts_of (quiet p) z) (eqb-true s.entries.top.number t.entries.top.number number))
      (looks_out (parts_of p s.entries.top.number) (parts_stated p s.entries.top.number) 0 0 (omega arith))

  pub init_out : Both (row_finish p s.entries) (row_finish (quiet p) t.entries)
  init_out = subst (λ (z : Access (Answer Entries)). Both z (row_finish (quiet p) t.entries)) (sym (finish_is p s.entries k hk))
      (subst (λ (z : Access (Answer Entries)). Both (finishing (InClass k) p s.entries) z) (sym (finish_is (quiet p) t.entries k (sym o.entries.top.kind ∙ hk))) (entry_out k hk))

  -- a throwable is raised into it
  pub fail_out : (x y : Value) → V (twins p lk) x y → (run (bind (row_fail p x s.entries) (after_row p s)) w).sound ≡ true → Locked p (Met p) (run (bind (row_fail p x s.entries) (after_row p s)) w) (run (bind (row_fail (quiet p) y t.entries) (after_row (quiet p) t)) v)
  fail_out x y r = rows_alike p lk s t w v o bs (fail-paired (twins p lk) r o.entries hk) (cut p lk _ (fail-paced p lk x s.entries loud))
