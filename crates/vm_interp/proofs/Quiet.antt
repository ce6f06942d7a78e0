-- The forms that touch nothing touch nothing, and enter no method.
use Rattle.std.proofs.Common.{◌≡◌, ◌≤◌, ℕ, ℤ, List, [], ◌∷◌, length, slice_get, Bool, true, false, cond, nat_lt, int_eq, pos, refl, arith, Option, Some, None}
use Rattle.jvm_model.specs.declared.values.{Value.Value, Touch.Touch}
use Rattle.jvm_model.specs.declared.values.Value.TheVariants.{Int, Long, Null, Lit, Obj}
use Rattle.jvm_model.specs.declared.instr.{Op.Op, Conv.Conv, Instr.Instr}
use Rattle.jvm_model.specs.declared.instr.Conv.TheVariants as conv
use Rattle.jvm_model.specs.declared.instr.Instr.TheVariants as form
use Rattle.jvm_model.specs.declared.program.Program.{Program}
use Rattle.jvm_model.specs.{World.World, Entries.Entries, Entries.with_stack, RowsBranches.goes_if, RowsBranches.row_branches, Step.row, View.touched}
use Rattle.jvm_model.specs.Access.{Access, done, read, write, make, spend}
use Rattle.jvm_model.specs.Rows.{Answer, popping, on_int, on_long, on_reference}
use Rattle.jvm_model.specs.RowsMoves.{is_long, loaded, stored, two_under_long, two_under_two, row_moves}
use Rattle.jvm_model.specs.RowsArith.{divides, shifts, unless_zero, two_ints, two_longs, long_by_int, converted, increased, row_arith}
use Rattle.check_sound.specs.ReachLaw.{puts}
use Rattle.vm_arith.specs.Pure.{TouchesNothing, growth}
use Rattle.vm_interp.proofs.NoEntry.{enters, NoEntry}

-- it accesses nothing, and enters no method
abbrev Quiet : Access (Answer Entries) → Type 0
Quiet (done a) = enters a ≡ false
Quiet (spend n t) = Quiet t
Quiet _ = ⊥

quiet_touches : (t : Access (Answer Entries)) → Quiet t → (w : World) (ts : List Touch) → touched t w ts ≡ ts
quiet_touches (done a) h w ts = refl
quiet_touches (spend n t) h w ts = quiet_touches t h w ts
quiet_touches _ h w ts = absurd h

quiet_enters : (t : Access (Answer Entries)) → Quiet t → NoEntry t
quiet_enters (done a) h = h
quiet_enters (spend n t) h = quiet_enters t h
quiet_enters _ h = absurd h

pops : (xs : List Value) (k : Value → List Value → Access (Answer Entries)) → ((v : Value) (vs : List Value) → Quiet (k v vs)) → Quiet (popping xs k)
pops [] k f = refl
pops (v ∷ vs) k f = f v vs

ints : (v : Value) (k : ℤ → Access (Answer Entries)) → ((n : ℤ) → Quiet (k n)) → Quiet (on_int v k)
ints (Int n) k f = f n
ints _ k f = refl

longs : (v : Value) (k : ℤ → Access (Answer Entries)) → ((n : ℤ) → Quiet (k n)) → Quiet (on_long v k)
longs (Long n) k f = f n
longs _ k f = refl

references : (s : Entries) (v : Value) (k : Access (Answer Entries)) → Quiet k → Quiet (on_reference s v k)
references s (Lit n) k f = f
references s (Obj o) k f = f
references s _ k f = refl

either : (b : Bool) (t u : Access (Answer Entries)) → Quiet t → Quiet u → Quiet (cond b t u)
either true t u f g = f
either false t u f g = g

stores : (p : Program) (s : Entries) (n : ℕ) (v : Value) (vs : List Value) → Quiet (stored p s n v vs)
stores p s n v vs = either (nat_lt n (length s.top.locals)) _ _ (refl) (refl)

loads : (p : Program) (s : Entries) (v : Option Value) → Quiet (loaded p s v)
loads p s None = refl
loads p s (Some v) = refl

increases : (p : Program) (n : ℕ) (by : ℤ) (s : Entries) (v : Option Value) → Quiet (increased p n by s v)
increases p n by s None = refl
increases p n by s (Some v) = ints v _ (λ a. stores p s n _ s.top.stack)

under_long : (p : Program) (s : Entries) (a b : Value) (ws : List Value) → Quiet (two_under_long p s a b ws)
under_long p s a b ws = either (is_long b) _ _ (refl) (pops ws _ (λ c rest. refl))

under_two : (p : Program) (s : Entries) (a b : Value) (ws : List Value) → Quiet (two_under_two p s a b ws)
under_two p s a b ws = pops ws _ (λ c xs. either (is_long c) _ _ (refl) (pops xs _ (λ d rest. refl)))

not_zero : (x : Op) (b : ℤ) (s : Entries) (k : Access (Answer Entries)) → Quiet k → Quiet (unless_zero x b s k)
not_zero x b s k f = either (divides x) _ _ (either (int_eq b (pos 0)) _ _ (refl) f) f

pairs_of_ints : (p : Program) (x : Op) (s : Entries) → Quiet (two_ints p x s)
pairs_of_ints p x s = pops s.top.stack _ (λ v vs. pops vs _ (λ u rest. ints v _ (λ b. ints u _ (λ a. not_zero x b _ _ (refl)))))

pairs_of_longs : (p : Program) (x : Op) (s : Entries) → Quiet (two_longs p x s)
pairs_of_longs p x s = pops s.top.stack _ (λ v vs. pops vs _ (λ u rest. longs v _ (λ b. longs u _ (λ a. not_zero x b _ _ (refl)))))

long_and_int : (p : Program) (x : Op) (s : Entries) → Quiet (long_by_int p x s)
long_and_int p x s = pops s.top.stack _ (λ v vs. pops vs _ (λ u rest. ints v _ (λ b. longs u _ (λ a. refl))))

conversions : (p : Program) (x : Conv) (s : Entries) → Quiet (converted p x s)
conversions p conv.L2i s = pops s.top.stack _ (λ v vs. longs v _ (λ a. refl))
conversions p _ s = pops s.top.stack _ (λ v vs. ints v _ (λ a. refl))

branchings : (b : Bool) (to : ℕ) (p : Program) (s : Entries) (vs : List Value) → Quiet (goes_if b to p s vs)
branchings b to p s vs = either b _ _ (refl) (refl)

quiet : (p : Program) (i : Instr) (s : Entries) → TouchesNothing i → Quiet (row p i s)
unfolding row row_moves row_arith row_branches
quiet p form.Nop s t = refl
quiet p (form.Const v) s t = refl
quiet p (form.Load x n) s t = loads p s (slice_get s.top.locals n)
quiet p (form.Store x n) s t = pops s.top.stack _ (λ v vs. stores p s n v vs)
quiet p form.Pop s t = pops s.top.stack _ (λ v vs. refl)
quiet p form.Pop2 s t = pops s.top.stack _ (λ a vs. either (is_long a) _ _ (refl) (pops vs _ (λ b rest. refl)))
quiet p form.Dup s t = pops s.top.stack _ (λ a vs. refl)
quiet p form.DupX1 s t = pops s.top.stack _ (λ a vs. pops vs _ (λ b rest. refl))
quiet p form.DupX2 s t = pops s.top.stack _ (λ a vs. pops vs _ (λ b ws. under_long p s a b ws))
quiet p form.Dup2 s t = pops s.top.stack _ (λ a vs. either (is_long a) _ _ (refl) (pops vs _ (λ b rest. refl)))
quiet p form.Dup2X1 s t = pops s.top.stack _ (λ a vs. pops vs _ (λ b ws. either (is_long a) _ _ (refl) (pops ws _ (λ c rest. refl))))
quiet p form.Dup2X2 s t = pops s.top.stack _ (λ a vs. pops vs _ (λ b ws. either (is_long a) _ _ (under_long p s a b ws) (under_two p s a b ws)))
quiet p form.Swap s t = pops s.top.stack _ (λ a vs. pops vs _ (λ b rest. refl))
quiet p form.Monitor s t = pops s.top.stack _ (λ v vs. references (with_stack s vs) v _ (refl))
quiet p (form.Binary x false) s t = pairs_of_ints p x s
quiet p (form.Binary x true) s t = either (shifts x) _ _ (long_and_int p x s) (pairs_of_longs p x s)
quiet p (form.Neg false) s t = pops s.top.stack _ (λ v vs. ints v _ (λ a. refl))
quiet p (form.Neg true) s t = pops s.top.stack _ (λ v vs. longs v _ (λ a. refl))
quiet p (form.Inc n by) s t = increases p n by s (slice_get s.top.locals n)
quiet p (form.Convert x) s t = conversions p x s
quiet p form.Compare s t = pops s.top.stack _ (λ v vs. pops vs _ (λ u rest. longs v _ (λ b. longs u _ (λ a. refl))))
quiet p (form.IfZero x to) s t = pops s.top.stack _ (λ v vs. ints v _ (λ a. branchings _ to p s vs))
quiet p (form.IfInts x to) s t = pops s.top.stack _ (λ v vs. pops vs _ (λ u rest. ints v _ (λ b. ints u _ (λ a. branchings _ to p s rest))))
quiet p (form.IfRefs x to) s t = pops s.top.stack _ (λ v vs. pops vs _ (λ u rest. branchings _ to p s rest))
quiet p (form.IfNull x to) s t = pops s.top.stack _ (λ v vs. branchings _ to p s vs)
quiet p (form.Goto to) s t = refl
quiet p (form.Table low ts other) s t = pops s.top.stack _ (λ v vs. ints v _ (λ a. refl))
quiet p (form.Lookup ps other) s t = pops s.top.stack _ (λ v vs. ints v _ (λ a. refl))
quiet p _ s t = absurd (cc)

pub untouched : (p : Program) (i : Instr) (s : Entries) → TouchesNothing i → (w : World) (ts : List Touch) → touched (row p i s) w ts ≡ ts
untouched p i s t w ts = quiet_touches (row p i s) (quiet p i s t) w ts

pub quiet_enters_none : (p : Program) (i : Instr) (s : Entries) → TouchesNothing i → NoEntry (row p i s)
quiet_enters_none p i s t = quiet_enters (row p i s) (quiet p i s t)

-- such a form asks for no more room than it puts
pub grows : (i : Instr) → growth i ≤ puts i
grows (form.GetStatic f) = omega arith
grows _ = omega arith
