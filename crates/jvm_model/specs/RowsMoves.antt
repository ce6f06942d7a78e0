-- Constants, loads, stores, moves of operands and monitors (JVMS 6.5): no touch, no cost besides 1.
use Rattle.std.specs.Prelude.{ℕ, List, ◌∷◌, length, Bool, true, false, cond, nat_lt, set, slice_get, Option, Some, None}
use Rattle.jvm_model.specs.declared.{values.Value.Value, instr.Instr.Instr, program.Program.Program}
use Rattle.jvm_model.specs.declared.values.Value.TheVariants.{Int, Long, Null, Lit, Obj}
use Rattle.jvm_model.specs.declared.instr.Instr.TheVariants as form
use Rattle.jvm_model.specs.{Access.Access, Entries.Entries, Entries.with_stack}
use Rattle.jvm_model.specs.Rows.{Answer, none_here, goes_on, popping, on_reference}

-- whether a value takes two slots
abbrev pub is_long : Value → Bool
is_long (Int n) = false
is_long (Long n) = true
is_long Null = false
is_long (Lit n) = false
is_long (Obj o) = false

abbrev pub loaded : Program → Entries → Option Value → Access (Answer Entries)
loaded p s None = none_here
loaded p s (Some v) = goes_on p s (v ∷ s.top.stack)

-- a local is set, where there is one of this number
abbrev pub with_local : Entries → ℕ → Value → Entries
with_local s n v = record s { top = record s.top { locals = set s.top.locals n v } }

abbrev pub stored : Program → Entries → ℕ → Value → List Value → Access (Answer Entries)
stored p s n v vs = cond (nat_lt n (length s.top.locals)) (goes_on p (with_local s n v) vs) none_here

-- two operands of one slot, or a long, below which the copies go
abbrev pub two_under_long : Program → Entries → Value → Value → List Value → Access (Answer Entries)
two_under_long p s a b ws = cond (is_long b)
    (goes_on p s (a ∷ b ∷ a ∷ ws))
    (popping ws (λ c rest. goes_on p s (a ∷ b ∷ c ∷ a ∷ rest)))

abbrev pub two_under_two : Program → Entries → Value → Value → List Value → Access (Answer Entries)
two_under_two p s a b ws = popping ws (λ c xs. cond (is_long c)
    (goes_on p s (a ∷ b ∷ c ∷ a ∷ b ∷ xs))
    (popping xs (λ d rest. goes_on p s (a ∷ b ∷ c ∷ d ∷ a ∷ b ∷ rest))))

unfoldable pub row_moves : Program → Instr → Entries → Access (Answer Entries)
row_moves p form.Nop s = goes_on p s s.top.stack
row_moves p (form.Const v) s = goes_on p s (v ∷ s.top.stack)
row_moves p (form.Load x n) s = loaded p s (slice_get s.top.locals n)
row_moves p (form.Store x n) s = popping s.top.stack (λ v vs. stored p s n v vs)
row_moves p form.Pop s = popping s.top.stack (λ a vs. goes_on p s vs)
row_moves p form.Pop2 s = popping s.top.stack (λ a vs. cond (is_long a) (goes_on p s vs) (popping vs (λ b rest. goes_on p s rest)))
row_moves p form.Dup s = popping s.top.stack (λ a vs. goes_on p s (a ∷ a ∷ vs))
row_moves p form.DupX1 s = popping s.top.stack (λ a vs. popping vs (λ b rest. goes_on p s (a ∷ b ∷ a ∷ rest)))
row_moves p form.DupX2 s = popping s.top.stack (λ a vs. popping vs (λ b ws. two_under_long p s a b ws))
row_moves p form.Dup2 s = popping s.top.stack (λ a vs. cond (is_long a) (goes_on p s (a ∷ a ∷ vs)) (popping vs (λ b rest. goes_on p s (a ∷ b ∷ a ∷ b ∷ rest))))
row_moves p form.Dup2X1 s = popping s.top.stack (λ a vs. popping vs (λ b ws. cond (is_long a)
    (goes_on p s (a ∷ b ∷ a ∷ ws))
    (popping ws (λ c rest. goes_on p s (a ∷ b ∷ c ∷ a ∷ b ∷ rest)))))
row_moves p form.Dup2X2 s = popping s.top.stack (λ a vs. popping vs (λ b ws. cond (is_long a)
    (two_under_long p s a b ws)
    (two_under_two p s a b ws)))
row_moves p form.Swap s = popping s.top.stack (λ a vs. popping vs (λ b rest. goes_on p s (b ∷ a ∷ rest)))
row_moves p form.Monitor s = popping s.top.stack (λ v vs. on_reference (with_stack s vs) v (goes_on p s vs))
row_moves p _ s = none_here
