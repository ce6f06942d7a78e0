-- Branches and switches (JVMS 6.5): no touch, no cost besides 1.
use Rattle.std.specs.Prelude.{ℕ, ℤ, List, [], ◌∷◌, length, Bool, true, false, not, ◌&&◌, cond, nat_eq, nat_lt, get_or, pos, ◌-ℤ◌, int_lt, int_le, unsigned_abs}
use Rattle.std.specs.Ordering.{int_eq}
use Rattle.jvm_model.specs.declared.{values.Value.Value, instr.IfTest.IfTest, instr.Instr.Instr, program.Program.Program}
use Rattle.jvm_model.specs.declared.values.Value.TheVariants.{Int, Long, Null, Lit, Obj}
use Rattle.jvm_model.specs.declared.instr.IfTest.TheVariants as test
use Rattle.jvm_model.specs.declared.instr.Instr.TheVariants as form
use Rattle.jvm_model.specs.{Access.Access, Entries.Entries}
use Rattle.jvm_model.specs.Rows.{Answer, none_here, goes_on, goes_to, popping, on_int}

-- whether a test holds of two ints, the upper operand second
abbrev pub holds : IfTest → ℤ → ℤ → Bool
holds test.Eq a b = int_eq a b
holds test.Ne a b = not (int_eq a b)
holds test.Lt a b = int_lt a b
holds test.Ge a b = int_le b a
holds test.Gt a b = int_lt b a
holds test.Le a b = int_le a b

-- whether two references are the same
abbrev pub same_reference : Value → Value → Bool
same_reference Null Null = true
same_reference (Lit a) (Lit b) = nat_eq a b
same_reference (Obj a) (Obj b) = nat_eq a b
same_reference _ _ = false

abbrev pub is_null : Value → Bool
is_null (Int n) = false
is_null (Long n) = false
is_null Null = true
is_null (Lit n) = false
is_null (Obj o) = false

abbrev pub flag_is : Bool → Bool → Bool
flag_is true b = b
flag_is false b = not b

-- the step goes to a place where a test holds, else to the next instruction
abbrev pub goes_if : Bool → ℕ → Program → Entries → List Value → Access (Answer Entries)
goes_if b to p s vs = cond b (goes_to to s vs) (goes_on p s vs)

-- the target of a tableswitch
unfoldable pub table_target : ℤ → List ℕ → ℕ → ℤ → ℕ
table_target low ts other n = cond (int_le low n && nat_lt (unsigned_abs (n -ℤ low)) (length ts)) (get_or ts (unsigned_abs (n -ℤ low)) other) other

-- the target of a lookupswitch
unfoldable pub lookup_target : List (ℤ × ℕ) → ℕ → ℤ → ℕ
lookup_target [] other n = other
lookup_target (x ∷ xs) other n = cond (int_eq x.0 n) x.1 (lookup_target xs other n)

unfoldable pub row_branches : Program → Instr → Entries → Access (Answer Entries)
row_branches p (form.IfZero x to) s = popping s.top.stack (λ v vs. on_int v (λ a. goes_if (holds x a (pos 0)) to p s vs))
row_branches p (form.IfInts x to) s = popping s.top.stack (λ v vs. popping vs (λ u rest. on_int v (λ b. on_int u (λ a. goes_if (holds x a b) to p s rest))))
row_branches p (form.IfRefs x to) s = popping s.top.stack (λ v vs. popping vs (λ u rest. goes_if (flag_is x (same_reference u v)) to p s rest))
row_branches p (form.IfNull x to) s = popping s.top.stack (λ v vs. goes_if (flag_is x (is_null v)) to p s vs)
row_branches p (form.Goto to) s = goes_to to s s.top.stack
row_branches p (form.Table low ts other) s = popping s.top.stack (λ v vs. on_int v (λ n. goes_to (table_target low ts other n) s vs))
row_branches p (form.Lookup ps other) s = popping s.top.stack (λ v vs. on_int v (λ n. goes_to (lookup_target ps other n) s vs))
row_branches p _ s = none_here
