-- Whether a form that touches nothing has its row lies in the operands and locals alone.
use Rattle.std.proofs.Common.{ℕ, ℤ, List, [], ◌∷◌, length, slice_get, Bool, true, false, cond, nat_lt, int_eq, pos, Option, Some, None}
use Rattle.jvm_model.specs.declared.{values.Value.Value, instr.Op.Op, instr.Conv.Conv, instr.Instr.Instr, program.Program.Program}
use Rattle.jvm_model.specs.declared.values.Value.TheVariants.{Int, Long, Null, Lit, Obj}
use Rattle.jvm_model.specs.declared.instr.Conv.TheVariants as conv
use Rattle.jvm_model.specs.declared.instr.Instr.TheVariants as form
use Rattle.jvm_model.specs.{World.World, Access.Access, Entries.Entries, Entries.with_stack, RowsBranches.goes_if, RowsBranches.row_branches, Step.row}
use Rattle.jvm_model.specs.Rows.{Answer, popping, on_int, on_long, on_reference}
use Rattle.jvm_model.specs.RowsMoves.{is_long, loaded, stored, two_under_long, two_under_two, row_moves}
use Rattle.jvm_model.specs.RowsArith.{divides, shifts, unless_zero, two_ints, two_longs, long_by_int, converted, increased, row_arith}
use Rattle.jvm_model.specs.{View.IsSafe, View.IsRow, Classes.no_program}
use Rattle.vm_arith.specs.Pure.{no_world, HasRow, TouchesNothing}

-- where one program has its end in a row, the other has
abbrev Follows : Access (Answer Entries) → Access (Answer Entries) → Type 0
Follows t u = (w w' : World) → IsSafe IsRow t w → IsSafe IsRow u w'

pops : (xs : List Value) (k l : Value → List Value → Access (Answer Entries)) → ((v : Value) (vs : List Value) → Follows (k v vs) (l v vs)) → Follows (popping xs k) (popping xs l)
pops [] k l f = λ w w' h. absurd h
pops (v ∷ vs) k l f = f v vs

ints : (v : Value) (k l : ℤ → Access (Answer Entries)) → ((n : ℤ) → Follows (k n) (l n)) → Follows (on_int v k) (on_int v l)
ints (Int n) k l f = f n
ints (Long n) k l f = λ w w' h. absurd h
ints Null k l f = λ w w' h. absurd h
ints (Lit n) k l f = λ w w' h. absurd h
ints (Obj o) k l f = λ w w' h. absurd h

longs : (v : Value) (k l : ℤ → Access (Answer Entries)) → ((n : ℤ) → Follows (k n) (l n)) → Follows (on_long v k) (on_long v l)
longs (Int n) k l f = λ w w' h. absurd h
longs (Long n) k l f = f n
longs Null k l f = λ w w' h. absurd h
longs (Lit n) k l f = λ w w' h. absurd h
longs (Obj o) k l f = λ w w' h. absurd h

references : (s : Entries) (v : Value) (k l : Access (Answer Entries)) → Follows k l → Follows (on_reference s v k) (on_reference s v l)
references s (Int n) k l f = λ w w' h. absurd h
references s (Long n) k l f = λ w w' h. absurd h
references s Null k l f = λ w w' h. h
references s (Lit n) k l f = f
references s (Obj o) k l f = f

either : (b : Bool) (t u t' u' : Access (Answer Entries)) → Follows t u → Follows t' u' → Follows (cond b t t') (cond b u u')
either true t u t' u' f g = f
either false t u t' u' f g = g

stores : (p q : Program) (s : Entries) (n : ℕ) (v : Value) (vs : List Value) → Follows (stored p s n v vs) (stored q s n v vs)
stores p q s n v vs = either (nat_lt n (length s.top.locals)) _ _ _ _ (λ w w' h. h) (λ w w' h. h)

loads : (p q : Program) (s : Entries) (v : Option Value) → Follows (loaded p s v) (loaded q s v)
loads p q s None = λ w w' h. h
loads p q s (Some v) = λ w w' h. h

increases : (p q : Program) (n : ℕ) (by : ℤ) (s : Entries) (v : Option Value) → Follows (increased p n by s v) (increased q n by s v)
increases p q n by s None = λ w w' h. h
increases p q n by s (Some v) = ints v _ _ (λ a. stores p q s n _ s.top.stack)

under_long : (p q : Program) (s : Entries) (a b : Value) (ws : List Value) → Follows (two_under_long p s a b ws) (two_under_long q s a b ws)
under_long p q s a b ws = either (is_long b) _ _ _ _ (λ w w' h. h) (pops ws _ _ (λ c rest w w' h. h))

under_two : (p q : Program) (s : Entries) (a b : Value) (ws : List Value) → Follows (two_under_two p s a b ws) (two_under_two q s a b ws)
under_two p q s a b ws = pops ws _ _ (λ c xs. either (is_long c) _ _ _ _ (λ w w' h. h) (pops xs _ _ (λ d rest w w' h. h)))

not_zero : (x : Op) (b : ℤ) (s : Entries) (k l : Access (Answer Entries)) → Follows k l → Follows (unless_zero x b s k) (unless_zero x b s l)
not_zero x b s k l f = either (divides x) _ _ _ _ (either (int_eq b (pos 0)) _ _ _ _ (λ w w' h. h) f) f

pairs_of_ints : (p q : Program) (x : Op) (s : Entries) → Follows (two_ints p x s) (two_ints q x s)
pairs_of_ints p q x s = pops s.top.stack _ _ (λ v vs. pops vs _ _ (λ u rest. ints v _ _ (λ b. ints u _ _ (λ a. not_zero x b _ _ _ (λ w w' h. h)))))

pairs_of_longs : (p q : Program) (x : Op) (s : Entries) → Follows (two_longs p x s) (two_longs q x s)
pairs_of_longs p q x s = pops s.top.stack _ _ (λ v vs. pops vs _ _ (λ u rest. longs v _ _ (λ b. longs u _ _ (λ a. not_zero x b _ _ _ (λ w w' h. h)))))

long_and_int : (p q : Program) (x : Op) (s : Entries) → Follows (long_by_int p x s) (long_by_int q x s)
long_and_int p q x s = pops s.top.stack _ _ (λ v vs. pops vs _ _ (λ u rest. ints v _ _ (λ b. longs u _ _ (λ a w w' h. h))))

conversions : (p q : Program) (x : Conv) (s : Entries) → Follows (converted p x s) (converted q x s)
conversions p q conv.I2l s = pops s.top.stack _ _ (λ v vs. ints v _ _ (λ a w w' h. h))
conversions p q conv.L2i s = pops s.top.stack _ _ (λ v vs. longs v _ _ (λ a w w' h. h))
conversions p q conv.I2b s = pops s.top.stack _ _ (λ v vs. ints v _ _ (λ a w w' h. h))
conversions p q conv.I2c s = pops s.top.stack _ _ (λ v vs. ints v _ _ (λ a w w' h. h))
conversions p q conv.I2s s = pops s.top.stack _ _ (λ v vs. ints v _ _ (λ a w w' h. h))

branchings : (b : Bool) (to : ℕ) (p q : Program) (s : Entries) (vs : List Value) → Follows (goes_if b to p s vs) (goes_if b to q s vs)
branchings b to p q s vs = either b _ _ _ _ (λ w w' h. h) (λ w w' h. h)

follows : (p q : Program) (i : Instr) (s : Entries) → TouchesNothing i → Follows (row p i s) (row q i s)
unfolding row row_moves row_arith row_branches
follows p q form.Nop s t = λ w w' h. h
follows p q (form.Const v) s t = λ w w' h. h
follows p q (form.Load x n) s t = loads p q s (slice_get s.top.locals n)
follows p q (form.Store x n) s t = pops s.top.stack _ _ (λ v vs. stores p q s n v vs)
follows p q form.Pop s t = pops s.top.stack _ _ (λ v vs w w' h. h)
follows p q form.Pop2 s t = pops s.top.stack _ _ (λ a vs. either (is_long a) _ _ _ _ (λ w w' h. h) (pops vs _ _ (λ b rest w w' h. h)))
follows p q form.Dup s t = pops s.top.stack _ _ (λ a vs w w' h. h)
follows p q form.DupX1 s t = pops s.top.stack _ _ (λ a vs. pops vs _ _ (λ b rest w w' h. h))
follows p q form.DupX2 s t = pops s.top.stack _ _ (λ a vs. pops vs _ _ (λ b ws. under_long p q s a b ws))
follows p q form.Dup2 s t = pops s.top.stack _ _ (λ a vs. either (is_long a) _ _ _ _ (λ w w' h. h) (pops vs _ _ (λ b rest w w' h. h)))
follows p q form.Dup2X1 s t = pops s.top.stack _ _ (λ a vs. pops vs _ _ (λ b ws. either (is_long a) _ _ _ _ (λ w w' h. h) (pops ws _ _ (λ c rest w w' h. h))))
follows p q form.Dup2X2 s t = pops s.top.stack _ _ (λ a vs. pops vs _ _ (λ b ws. either (is_long a) _ _ _ _ (under_long p q s a b ws) (under_two p q s a b ws)))
follows p q form.Swap s t = pops s.top.stack _ _ (λ a vs. pops vs _ _ (λ b rest w w' h. h))
follows p q form.Monitor s t = pops s.top.stack _ _ (λ v vs. references (with_stack s vs) v _ _ (λ w w' h. h))
follows p q (form.Binary x false) s t = pairs_of_ints p q x s
follows p q (form.Binary x true) s t = either (shifts x) _ _ _ _ (long_and_int p q x s) (pairs_of_longs p q x s)
follows p q (form.Neg false) s t = pops s.top.stack _ _ (λ v vs. ints v _ _ (λ a w w' h. h))
follows p q (form.Neg true) s t = pops s.top.stack _ _ (λ v vs. longs v _ _ (λ a w w' h. h))
follows p q (form.Inc n by) s t = increases p q n by s (slice_get s.top.locals n)
follows p q (form.Convert x) s t = conversions p q x s
follows p q form.Compare s t = pops s.top.stack _ _ (λ v vs. pops vs _ _ (λ u rest. longs v _ _ (λ b. longs u _ _ (λ a w w' h. h))))
follows p q (form.IfZero x to) s t = pops s.top.stack _ _ (λ v vs. ints v _ _ (λ a. branchings _ to p q s vs))
follows p q (form.IfInts x to) s t = pops s.top.stack _ _ (λ v vs. pops vs _ _ (λ u rest. ints v _ _ (λ b. ints u _ _ (λ a. branchings _ to p q s rest))))
follows p q (form.IfRefs x to) s t = pops s.top.stack _ _ (λ v vs. pops vs _ _ (λ u rest. branchings _ to p q s rest))
follows p q (form.IfNull x to) s t = pops s.top.stack _ _ (λ v vs. branchings _ to p q s vs)
follows p q (form.Goto to) s t = λ w w' h. h
follows p q (form.Table low ts other) s t = pops s.top.stack _ _ (λ v vs. ints v _ _ (λ a w w' h. h))
follows p q (form.Lookup ps other) s t = pops s.top.stack _ _ (λ v vs. ints v _ _ (λ a w w' h. h))
follows p q _ s t = absurd (cc)

-- a row that is there in some program and world is there
pub has_row : (p : Program) (w : World) (i : Instr) (s : Entries) → TouchesNothing i → IsSafe IsRow (row p i s) w → HasRow i s
has_row p w i s t h = follows p no_program i s t w no_world h
