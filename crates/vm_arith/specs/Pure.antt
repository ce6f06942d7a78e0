-- What contracts say of the forms that touch nothing.
use Rattle.std.specs.Prelude.{◌≡◌, ℕ, List, [], ◌∷◌, Bool, true, false, cond}
use Rattle.jvm_model.specs.{declared.values.Value.Value, declared.instr.Instr.Instr, declared.outcome.Next.Next, declared.program.Program.Program, World.World}
use Rattle.jvm_model.specs.declared.values.Value.TheVariants.{Int, Long, Null, Lit, Obj}
use Rattle.jvm_model.specs.declared.instr.Instr.TheVariants as form
use Rattle.jvm_model.specs.declared.outcome.Next.TheVariants.{Go, Fault, Raise, Enter, Leave, Over}
use Rattle.jvm_model.specs.{Access.Access, Access.done, Classes.next_place, Classes.no_program, Entries.Entries, Entries.with_place, Rows.Answer, Rows.answer}
use Rattle.jvm_model.specs.Step.{Group, moves, arith, branches, statics, fields, create, arrays, casts, calls, returns, throw, group_of, row}
use Rattle.jvm_model.specs.View.{IsSafe, IsRow, counted, paid, counts_one, outcome}
use Rattle.vm_frames.specs.Stack.{HasIntOnTop}

abbrev pub no_world : World
no_world = record { objects = []; statics = []; states = []; files = []; props = [] }

-- A part of a row that touches nothing is there. Neither the program nor the world has a part in whether it is, so these
-- stand for all.
abbrev pub IsThere : (Program → Entries → Access (Answer Entries)) → Entries → Type 0
IsThere t s = IsSafe IsRow (t no_program s) no_world

-- the top entry is the same one, but for its operands and locals
pub record IsSameFrame (s u : Entries) : Type 0 where
  pub kind : u.top.kind ≡ s.top.kind
  pub number : u.top.number ≡ s.top.number
  pub pc : u.top.pc ≡ s.top.pc
  pub below : u.below ≡ s.below

-- the two top operands are ints
abbrev pub HasIntsOnTop : List Value → Type 0
HasIntsOnTop [] = ⊥
HasIntsOnTop (Int n ∷ vs) = HasIntOnTop vs
HasIntsOnTop (Long n ∷ vs) = ⊥
HasIntsOnTop (Null ∷ vs) = ⊥
HasIntsOnTop (Lit n ∷ vs) = ⊥
HasIntsOnTop (Obj o ∷ vs) = ⊥

-- a part of a row goes on at the next instruction, whatever the program and the place of this one
pub record Continues (t : Program → Entries → Access (Answer Entries)) (s u : Entries) : Type 0 where
  pub frame : IsSameFrame s u
  pub row : (p : Program) (q : ℕ) → t p (with_place s q) ≡ done (answer Go (with_place u (next_place p s.top.number q)))

-- there is a row of a form that touches nothing
abbrev pub HasRow : Instr → Entries → Type 0
HasRow i s = IsThere (λ p t. row p i t) s

-- the row goes on at the next instruction
abbrev pub GoesOn : Instr → Entries → Entries → Type 0
GoesOn i s u = Continues (λ p t. row p i t) s u

-- the row goes on at a place of the code
pub record GoesTo (i : Instr) (n : ℕ) (s u : Entries) : Type 0 where
  pub frame : IsSameFrame s u
  pub row : (p : Program) (q : ℕ) → row p i (with_place s q) ≡ done (answer Go (with_place u n))

-- the row goes on at its target where its test holds, else at the next instruction
pub record Branches (i : ℕ → Instr) (b : Bool) (s u : Entries) : Type 0 where
  pub frame : IsSameFrame s u
  pub row : (to : ℕ) (p : Program) (q : ℕ) → row p (i to) (with_place s q) ≡ done (answer Go (with_place u (cond b to (next_place p s.top.number q))))

-- the row throws by itself a new throwable of a class
pub record Throws (i : Instr) (c : ℕ) (s u : Entries) : Type 0 where
  pub frame : IsSameFrame s u
  pub row : (p : Program) (q : ℕ) → row p i (with_place s q) ≡ done (answer (Fault c) (with_place u q))

-- the row ends as a call answered
abbrev pub Ends : Instr → Next → Entries → Entries → Type 0
Ends i Go s u = GoesOn i s u
Ends i (Fault c) s u = Throws i c s u
Ends i (Raise v) s u = ⊥
Ends i (Enter m) s u = ⊥
Ends i Leave s u = ⊥
Ends i Over s u = ⊥

-- the groups whose forms touch nothing
abbrev pub is_pure : Group → Bool
is_pure moves = true
is_pure arith = true
is_pure branches = true
is_pure statics = false
is_pure fields = false
is_pure create = false
is_pure arrays = false
is_pure casts = false
is_pure calls = false
is_pure returns = false
is_pure throw = false

abbrev pub IsMove : Instr → Type 0
IsMove i = group_of i ≡ moves

abbrev pub IsArithmetic : Instr → Type 0
IsArithmetic i = group_of i ≡ arith

abbrev pub IsBranch : Instr → Type 0
IsBranch i = group_of i ≡ branches

abbrev pub TouchesNothing : Instr → Type 0
TouchesNothing i = is_pure (group_of i) ≡ true

-- how many operands a form may put beyond those that it takes
abbrev pub growth : Instr → ℕ
growth (form.Const v) = 1
growth (form.Load x n) = 1
growth form.Dup = 1
growth form.DupX1 = 1
growth form.DupX2 = 1
growth form.Dup2 = 2
growth form.Dup2X1 = 2
growth form.Dup2X2 = 2
growth _ = 0

-- the row goes on at a place, where this is the next instruction's
pub record GoesFrom (i : Instr) (next n : ℕ) (s u : Entries) : Type 0 where
  pub frame : IsSameFrame s u
  pub row : (p : Program) (q : ℕ) → next_place p s.top.number q ≡ next → row p i (with_place s q) ≡ done (answer Go (with_place u n))

-- the row with the 1 of its step, in a program where this is the next instruction's place
abbrev pub IsStep : Instr → ℕ → ℕ → Next → Entries → Entries → ℕ → Type 0
IsStep i next left x s u left' = (p : Program) (w : World) → next_place p s.top.number s.top.pc ≡ next →
    counted (paid (counts_one p x) (row p i s)) w left ≡ outcome x u w left'
