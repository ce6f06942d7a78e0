-- The use of a class in both runs: a hushed one that is Idle is begun in the one run alone, and the use of any other one comes out
-- alike.
use Rattle.std.proofs.Common.{◌≡◌, ℕ, ◌≤◌, inl, inr, None, Bool, true, false, cond, nat_eq, refl, sym, ◌∙◌, ap, subst, arith}
use Rattle.std.proofs.lemmas.Bool.{eqb-true}
use Rattle.jvm_model.specs.declared.values.InitState.{InitState, TheVariants.Idle, TheVariants.Running, TheVariants.Done}
use Rattle.jvm_model.specs.declared.values.Location.TheVariants as place
use Rattle.jvm_model.specs.{declared.program.Program.Program, World.World, World.at, World.put}
use Rattle.jvm_model.specs.{Entries.Entries, Entries.class_entry, Entries.is_full, Entries.with_entry, Builtin.stack_overflow_error, Classes.is_trivial}
use Rattle.jvm_model.specs.Access.{Access, done, read, write, make, spend, bind, read_of, Ran, run}
use Rattle.jvm_model.specs.{Linked.Linked, Step.after_row, Throwing.throws, State.State, State.Turn, State.next, State.with_entries}
use Rattle.jvm_model.specs.Rows.{Answer, Used, ready, begun, refused, begun_at, begin, once, using}
use Rattle.order_law.specs.{Pairing.Paired, Pairing.both_done, Pairing.both_read, Pairing.inits, Numbers.same_numbers}
use Rattle.order_law.proofs.{States.PairedUsed, States.both_ready, States.PairedTurn, Steps.States, Steps.then_after}
use Rattle.order_law.proofs.Combinators.{E, Rows, bind-paired, choose-paired, begun_at-paired, once-paired}
use Rattle.check_sound.proofs.{Paced.PacedRow, Paced.CutRow, PacedCreate.cut, PacedStep.then-paced}
use Rattle.quiet_init.specs.Quiet.{quiet}
use Rattle.quiet_init.proofs.{Beside.IsHushed, Beside.IsPending, Beside.Beside, Going.pushed, Still.with_touch, Trivials.trivial_kept}
use Rattle.quiet_law.proofs.{Together.itself, Together.Equal, Plain.twins, Clear.clear, Clear.Locked, Clear.lock}

-- turns in pairs
abbrev pub Met : Program → Turn → Turn → Type 0
Met p = PairedTurn same_numbers (λ a b. a ≡ b) p (quiet p)

-- a step at the state s in the world w begins a hushed class
pub record Begins (p : Program) (s : State) (w : World) (r : Ran Turn) : Type 0 where
  pub class : ℕ
  pub hushed : IsHushed p class
  pub idle : at w (place.Init class) ≡ Idle
  pub value : r.value ≡ next (pushed class s)
  pub world : r.world ≡ put w (place.Init class) Running

-- How a step at the state s in the world w comes out in the program, and in the program without quiet initialisers: alike; or it
-- begins a hushed class.
pub data Comes (p : Program) (s : State) (w : World) (r q : Ran Turn) : Type 0 where
  alike : Locked p (Met p) r q → Comes p s w r q
  goes : s.raised ≡ None → Begins p s w r → Comes p s w r q

-- how it comes out after its row: there may be no room for the entry of the class
pub data Out (p : Program) (s : State) (w : World) (r q : Ran Turn) : Type 0 where
  locked : Locked p (Met p) r q → Out p s w r q
  begins : Begins p s w r → Out p s w r q
  no_room : r.value ≡ (run (throws p stack_overflow_error (with_entries s s.entries)) w).value → r.world ≡ (run (throws p stack_overflow_error (with_entries s s.entries)) w).world → Out p s w r q

-- the first run as one that came out alike and costs no more
pub as_left : (p : Program) {A B : Type 0} {Q : A → B → Type 0} {r x : Ran A} {q : Ran B} → r.value ≡ x.value → r.world ≡ x.world → x.units ≤ r.units → Locked p Q x q → Locked p Q r q
as_left p {Q = Q} {r = r} {x = x} {q = q} e f n l = record {
  value = subst (λ z. Q z q.value) (sym e) l.value;
  world = subst (λ (z : World). Beside p Equal z q.world) (sym f) l.world;
  units = (let m = l.units in omega arith);
  sound = l.sound;
}

-- Class c of the program, and d, the same without quiet initialisers: they start alike, or it is a hushed one.
pub data Starts (p : Program) (c d : ℕ) : Type 0 where
  alike_start : is_trivial p c ≡ is_trivial (quiet p) d → (IsHushed p c → ⊥) → Starts p c d
  hushed_start : IsHushed p c → is_trivial (quiet p) d ≡ true → Starts p c d

pub decide : (p : Program) (c d : ℕ) → nat_eq c d ≡ true → Starts p c d
decide p c d e = by (is_trivial p c) refl (is_trivial (quiet p) c) refl
  where
    over : is_trivial (quiet p) c ≡ is_trivial (quiet p) d
    over = ap (λ (n : ℕ). is_trivial (quiet p) n) (eqb-true c d e)

    by : (b : Bool) → is_trivial p c ≡ b → (g : Bool) → is_trivial (quiet p) c ≡ g → Starts p c d
    by true f g h = alike_start (f ∙ (sym (trivial_kept p c f) ∙ over)) (λ i. absurd (let z : true ≡ false = sym f ∙ i.0 in cc))
    by false f true h = hushed_start (f, h) (sym over ∙ h)
    by false f false h = alike_start (f ∙ (sym h ∙ over)) (λ i. absurd (let z : true ≡ false = sym i.1 ∙ h in cc))

-- one program after another, and a third one
bind_assoc : {A B C : Type 0} (t : Access A) (f : A → Access B) (g : B → Access C) → bind (bind t f) g ≡ bind t (λ a. bind (f a) g)
bind_assoc (done a) f g = refl
bind_assoc (read l k) f g = λ i. read l (λ x. bind_assoc (k x) f g i)
bind_assoc (write l x t) f g = λ i. write l x (bind_assoc t f g i)
bind_assoc (make x k) f g = λ i. make x (λ o. bind_assoc (k o) f g i)
bind_assoc (spend n t) f g = λ i. spend n (bind_assoc t f g i)

module _ (p : Program) (lk : Linked p) where
  pub begin_alike : (c d : ℕ) {x y : Entries} → nat_eq c d ≡ true → is_trivial p c ≡ is_trivial (quiet p) d → E (twins p lk) x y → Paired itself (PairedUsed same_numbers (λ a b. a ≡ b)) (begin p c x) (begin (quiet p) d y)
  unfolding begin
  begin_alike c d {x} {y} e g r = choose-paired (twins p lk) _ _ g (both_done both_ready)
      (both_read (inits e) (λ a b h. subst (λ (z : InitState). Paired itself (PairedUsed same_numbers (λ a b. a ≡ b)) (begun_at c x a) (begun_at d y z)) h (begun_at-paired (twins p lk) c d a e r)))

  using_alike : (c d : ℕ) {x y : Entries} {k l : Access (Answer Entries)} → nat_eq c d ≡ true → is_trivial p c ≡ is_trivial (quiet p) d → E (twins p lk) x y → Rows (twins p lk) k l → Rows (twins p lk) (using p c x k) (using (quiet p) d y l)
  using_alike c d e g r f = bind-paired (twins p lk) (begin_alike c d e g r) (λ a b u. once-paired (twins p lk) r f u)

-- ---- a hushed class, and what comes once it may be used

module _ (p : Program) (c : ℕ) (s : Entries) (f : Used → Access Turn) where
  -- its state is read
  found : (w : World) (st : InitState) → is_trivial p c ≡ false → at w (place.Init c) ≡ st → run (bind (begin p c s) f) w ≡ with_touch (read_of (place.Init c) st) (run (bind (begun_at c s st) f) w)
  unfolding begin
  found w st n e = ap (λ (x : Bool). run (bind (cond x (done ready) (read (place.Init c) (begun_at c s))) f) w) n ∙ ap (λ (x : InitState). with_touch (read_of (place.Init c) x) (run (bind (begun_at c s x) f) w)) e

  -- it has none
  passed_over : (w : World) → is_trivial p c ≡ true → run (bind (begin p c s) f) w ≡ run (f ready) w
  unfolding begin
  passed_over w n = ap (λ (x : Bool). run (bind (cond x (done ready) (read (place.Init c) (begun_at c s))) f) w) n

  -- an entry of it is pushed, or there is no room
  abbrev at_room : Bool → Access Turn
  at_room b = bind (cond b (done (refused stack_overflow_error)) (write (place.Init c) Running (done (begun (with_entry (class_entry c) s))))) f

  idle_value : (w : World) (b : Bool) → is_trivial p c ≡ false → at w (place.Init c) ≡ Idle → is_full s ≡ b → (run (bind (begin p c s) f) w).value ≡ (run (at_room b) w).value
  idle_value w b n e g = ap (λ (x : Ran Turn). x.value) (found w Idle n e) ∙ ap (λ (x : Bool). (run (at_room x) w).value) g

  idle_world : (w : World) (b : Bool) → is_trivial p c ≡ false → at w (place.Init c) ≡ Idle → is_full s ≡ b → (run (bind (begin p c s) f) w).world ≡ (run (at_room b) w).world
  idle_world w b n e g = ap (λ (x : Ran Turn). x.world) (found w Idle n e) ∙ ap (λ (x : Bool). (run (at_room x) w).world) g

module _ (p : Program) (w v : World) (c d : ℕ) (h : IsHushed p c) (n : is_trivial (quiet p) d ≡ true) (x y : Entries) (f g : Used → Access Turn) where
  -- where it is done, the one run reads its state and the other doesn't
  pub done_alike : at w (place.Init c) ≡ Done → ((run (f ready) w).sound ≡ true → Locked p (Met p) (run (f ready) w) (run (g ready) v)) → (run (bind (begin p c x) f) w).sound ≡ true →
      Locked p (Met p) (run (bind (begin p c x) f) w) (run (bind (begin (quiet p) d y) g) v)
  done_alike e r ok =
      let z = found p c x f w Done h.0 e in
      let u = ap (λ (i : Ran Turn). i.units) z in
      subst (λ (i : Ran Turn). Locked p (Met p) (run (bind (begin p c x) f) w) i) (sym (passed_over (quiet p) d y g v n))
      (as_left p (ap (λ (i : Ran Turn). i.value) z) (ap (λ (i : Ran Turn). i.world) z) (omega arith) (r (sym (ap (λ (i : Ran Turn). i.sound) z) ∙ ok)))

  -- where it is idle and there is room, it is begun
  pub idle_begins : (s : State) → s.entries ≡ x → at w (place.Init c) ≡ Idle → is_full x ≡ false → ((t : Entries) → f (begun t) ≡ done (next (with_entries s t))) → Begins p s w (run (bind (begin p c x) f) w)
  idle_begins s here e room k = record {
    class = c;
    hushed = h;
    idle = e;
    value = idle_value p c x f w false h.0 e room ∙ (ap (λ (t : Access Turn). (run t (put w (place.Init c) Running)).value) (k (with_entry (class_entry c) x)) ∙ ap (λ (t : Entries). next (with_entries s (with_entry (class_entry c) t))) (sym here));
    world = idle_world p c x f w false h.0 e room ∙ ap (λ (t : Access Turn). (run t (put w (place.Init c) Running)).world) (k (with_entry (class_entry c) x));
  }

module _ (p : Program) (lk : Linked p) (s t : State) (w v : World) (o : States (twins p lk) s t) (bs : Beside p Equal w v) where
  -- rows that are the same but for numbers, of which the first touches what is alike
  pub rows_alike : {a b : Access (Answer Entries)} → Rows (twins p lk) a b → CutRow p (clear p w) (Unit {0}) a → (run (bind a (after_row p s)) w).sound ≡ true → Locked p (Met p) (run (bind a (after_row p s)) w) (run (bind b (after_row (quiet p) t)) v)
  rows_alike {a = a} r h ok = lock p w v bs (then_after (twins p lk) o r) 4 0 (then-paced p lk {M = clear p w} {B = Unit {0}} s a h) ok

  pub rows_out : {a b : Access (Answer Entries)} → Rows (twins p lk) a b → CutRow p (clear p w) (Unit {0}) a → (run (bind a (after_row p s)) w).sound ≡ true → Out p s w (run (bind a (after_row p s)) w) (run (bind b (after_row (quiet p) t)) v)
  rows_out r h ok = locked (rows_alike r h ok)

  -- what the step does once the class of its instruction may be used
  abbrev used : (q : Program) → State → Access (Answer Entries) → Used → Access Turn
  used q u k x = bind (once u.entries k x) (after_row q u)

  hushed_out : (c d : ℕ) → IsHushed p c → is_trivial (quiet p) d ≡ true → (k l : Access (Answer Entries)) → Rows (twins p lk) k l → ((IsPending p w c → ⊥) → PacedRow p (clear p w) 4 0 k) → (run (bind (begin p c s.entries) (used p s k)) w).sound ≡ true →
      Out p s w (run (bind (begin p c s.entries) (used p s k)) w) (run (bind (begin (quiet p) d t.entries) (used (quiet p) t l)) v)
  hushed_out c d h n k l r hp ok = elim (bs.hushed c h) [
    | inl e ↦ idle e (is_full s.entries) refl
    | inr e ↦ locked (done_alike p w v c d h n s.entries t.entries (used p s k) (used (quiet p) t l) e (λ i. rows_alike r (cut p lk k (hp (λ q. absurd (let z = sym e ∙ q.1 in cc)))) i) ok)
  ]
    where
      idle : at w (place.Init c) ≡ Idle → (b : Bool) → is_full s.entries ≡ b → Out p s w (run (bind (begin p c s.entries) (used p s k)) w) (run (bind (begin (quiet p) d t.entries) (used (quiet p) t l)) v)
      idle e true g = no_room (idle_value p c s.entries (used p s k) w true h.0 e g) (idle_world p c s.entries (used p s k) w true h.0 e g)
      idle e false g = begins (idle_begins p w v c d h n s.entries t.entries (used p s k) (used (quiet p) t l) s refl e g (λ x. refl))

  -- an instruction that uses class c, or d
  pub use_out : (c d : ℕ) → nat_eq c d ≡ true → {k l : Access (Answer Entries)} → Rows (twins p lk) k l → ((IsPending p w c → ⊥) → PacedRow p (clear p w) 4 0 k) → ((IsHushed p c → ⊥) → CutRow p (clear p w) (Unit {0}) (using p c s.entries k)) →
      (run (bind (using p c s.entries k) (after_row p s)) w).sound ≡ true → Out p s w (run (bind (using p c s.entries k) (after_row p s)) w) (run (bind (using (quiet p) d t.entries l) (after_row (quiet p) t)) v)
  use_out c d e {k} {l} r hp hu = by (decide p c d e)
    where
      by : Starts p c d → (run (bind (using p c s.entries k) (after_row p s)) w).sound ≡ true → Out p s w (run (bind (using p c s.entries k) (after_row p s)) w) (run (bind (using (quiet p) d t.entries l) (after_row (quiet p) t)) v)
      by (alike_start g n) = rows_out (using_alike p lk c d e g o.entries r) (hu n)
      by (hushed_start h n) =
          let a = bind_assoc (begin p c s.entries) (once s.entries k) (after_row p s) in
          let b = bind_assoc (begin (quiet p) d t.entries) (once t.entries l) (after_row (quiet p) t) in
          subst (λ (z : Access Turn). (run z w).sound ≡ true → Out p s w (run z w) (run (bind (using (quiet p) d t.entries l) (after_row (quiet p) t)) v)) (sym a)
          (subst (λ (z : Access Turn). (run (bind (begin p c s.entries) (used p s k)) w).sound ≡ true → Out p s w (run (bind (begin p c s.entries) (used p s k)) w) (run z v)) (sym b) (hushed_out c d h n k l r hp))
