-- A step of the driver in both runs.
use Rattle.std.proofs.Common.{◌≡◌, ℕ, Bool, true, false, cond, nat_eq, [], None, refl, sym, ap, subst, inl, inr, arith}
use Rattle.jvm_model.specs.declared.{program.Program.Program, state.Stage.Stage, state.Stage.TheVariants.Last}
use Rattle.jvm_model.specs.{World.World, Classes.is_static, Classes.method_at, Entries.is_full, Linked.Linked, Rows.begin}
use Rattle.jvm_model.specs.{Access.Access, Access.bind, Access.run, State.State, State.Turn, State.test_at}
use Rattle.jvm_model.specs.Driver.{drives, once_driven, makes, drive_first, drive_at, drive}
use Rattle.order_law.specs.{Numbers.same_numbers, Pairing.no_more, Pairing.both_none}
use Rattle.order_law.proofs.Combinators.{bind-paired}
use Rattle.order_law.proofs.States.{PairedStage, both_first, both_made, both_built, both_set_up, both_called, both_last}
use Rattle.order_law.proofs.Steps.{States, Turns, drives-paired, makes-paired, once_driven-paired, init-paired, set_up-paired, method-paired, tear_down-paired, judge-paired}
use Rattle.check_sound.proofs.PacedDriver.{PacedStep, StageAllowed, drives-paced, makes-paced, drive-paced}
use Rattle.quiet_init.specs.Quiet.{quiet}
use Rattle.quiet_init.proofs.Beside.{IsHushed, Beside}
use Rattle.quiet_law.proofs.{Together.Equal, Clear.clear, Clear.lock, Matching.matched, Plain.twins}
use Rattle.quiet_law.proofs.Use.{Comes, alike, goes, Starts, alike_start, hushed_start, decide, begin_alike, done_alike, idle_begins}

-- the driver's step is that of its stage
drive_is : (p : Program) (s : State) (x : Stage) → s.stage ≡ x → drive p s ≡ drive_at p x s
unfolding drive
drive_is p s x e = ap (λ (z : Stage). drive_at p z s) e

module _ (p : Program) (lk : Linked p) (s t : State) (w v : World) (o : States (twins p lk) s t) (bs : Beside p Equal w v) (room : is_full s.entries ≡ false) (calm : s.raised ≡ None) where
  -- how the two steps come out
  abbrev TurnsCome : Access Turn → Access Turn → Type 0
  TurnsCome a b = (run a w).sound ≡ true → Comes p s w (run a w) (run b v)

  turns_out : {a b : Access Turn} → Turns (twins p lk) a b → PacedStep (clear p w) 4 0 a → TurnsCome a b
  turns_out r h ok = alike (lock p w v bs r 4 0 h ok)

  -- the driver uses class c, or d
  driven_out : (c d : ℕ) → nat_eq c d ≡ true → {k l : Access Turn} → Turns (twins p lk) k l → PacedStep (clear p w) 4 0 k → ((IsHushed p c → ⊥) → PacedStep (clear p w) 4 0 (bind (begin p c s.entries) (once_driven p s k))) →
      TurnsCome (bind (begin p c s.entries) (once_driven p s k)) (bind (begin (quiet p) d t.entries) (once_driven (quiet p) t l))
  driven_out c d e {k} {l} r hp hu ok = by (decide p c d e)
    where
      by : Starts p c d → Comes p s w (run (bind (begin p c s.entries) (once_driven p s k)) w) (run (bind (begin (quiet p) d t.entries) (once_driven (quiet p) t l)) v)
      by (alike_start g n) = turns_out (bind-paired (twins p lk) (begin_alike p lk c d e g o.entries) (λ x y u. once_driven-paired (twins p lk) o r u)) (hu n) ok
      by (hushed_start h n) = elim (bs.hushed c h) [
        | inl i ↦ goes calm (idle_begins p w v c d h n s.entries t.entries (once_driven p s k) (once_driven (quiet p) t l) s refl i room (λ x. refl))
        | inr i ↦ alike (done_alike p w v c d h n s.entries t.entries (once_driven p s k) (once_driven (quiet p) t l) i (λ a. lock p w v bs r 4 0 hp a) ok)
      ]

  -- the first step: of a static method, or of the test's object
  first_out : (b b' : Bool) → b ≡ b' → ((IsHushed p (cond b (method_at p (test_at p s.test).method).class (test_at p s.test).class) → ⊥) → PacedStep (clear p w) 4 0 (cond b
      (bind (begin p (method_at p (test_at p s.test).method).class s.entries) (once_driven p s (drives p (test_at p s.test).method [] (Last None) s)))
      (bind (begin p (test_at p s.test).class s.entries) (once_driven p s (makes p (test_at p s.test).class s))))) →
      TurnsCome (cond b
      (bind (begin p (method_at p (test_at p s.test).method).class s.entries) (once_driven p s (drives p (test_at p s.test).method [] (Last None) s)))
      (bind (begin p (test_at p s.test).class s.entries) (once_driven p s (makes p (test_at p s.test).class s))))
      (cond b'
      (bind (begin (quiet p) (method_at (quiet p) (test_at (quiet p) t.test).method).class t.entries) (once_driven (quiet p) t (drives (quiet p) (test_at (quiet p) t.test).method [] (Last None) t)))
      (bind (begin (quiet p) (test_at (quiet p) t.test).class t.entries) (once_driven (quiet p) t (makes (quiet p) (test_at (quiet p) t.test).class t))))
  first_out true true e h = driven_out _ _ ((matched p lk).methods _ _ o.test.method).class (drives-paired (twins p lk) _ _ o.test.method no_more (both_last both_none) o) (drives-paced p lk 4 0 _ [] (Last None) s (omega arith)) h
  first_out false false e h = driven_out _ _ o.test.class (makes-paired (twins p lk) _ _ o.test.class o) (makes-paced p lk 4 0 _ s (omega arith)) h
  first_out _ _ e h = absurd (cc)

  stage_out : {x y : Stage} → PairedStage same_numbers (λ a b. a ≡ b) x y → (StageAllowed p (clear p w) x s → PacedStep (clear p w) 4 0 (drive_at p x s)) → TurnsCome (drive_at p x s) (drive_at (quiet p) y t)
  unfolding drive_first
  stage_out both_first h = first_out (is_static (method_at p (test_at p s.test).method).flags) (is_static (method_at (quiet p) (test_at (quiet p) t.test).method).flags) (ap is_static ((matched p lk).methods _ _ o.test.method).flags) h
  stage_out (both_made x) h = turns_out (init-paired (twins p lk) x o) (h tt)
  stage_out (both_built x) h = turns_out (set_up-paired (twins p lk) x o) (h tt)
  stage_out (both_set_up x) h = turns_out (method-paired (twins p lk) x o) (h tt)
  stage_out (both_called x r) h = turns_out (tear_down-paired (twins p lk) x r o) (h tt)
  stage_out (both_last r) h = turns_out (judge-paired (twins p lk) r o) (h tt)

  -- a step of the driver
  pub drive_out : TurnsCome (drive p s) (drive (quiet p) t)
  drive_out = subst (λ (z : Access Turn). TurnsCome z (drive (quiet p) t)) (sym (drive_is p s s.stage refl)) (subst (λ (z : Access Turn). TurnsCome (drive_at p s.stage s) z) (sym (drive_is (quiet p) t t.stage refl))
      (stage_out o.stage (λ m. subst (λ (z : Access Turn). PacedStep (clear p w) 4 0 z) (drive_is p s s.stage refl) (drive-paced p lk 4 0 s m (omega arith)))))
