-- Instructions by number. A table has for each byte place 1 and the number of the instruction there, or 0.
use Rattle.std.specs.Prelude.{◌≡◌, ℕ, zero, suc, List, [], ◌∷◌, length, cond, nat_eq, get_or, drop, Option, Some, None}
use Rattle.jvm_model.specs.declared.instr.Instr.TheVariants as form
use Rattle.jvm_model.specs.declared.program.{Program.Program, Body.Body, Placed.Placed}
use Rattle.jvm_model.specs.Classes.{layout, Found, found_of, place_after, method_at}
use Rattle.vm_tables.specs.FieldUnits.{AreUnits}

abbrev pub one_later : ℕ → ℕ
one_later zero = 0
one_later (suc n) = suc (suc n)

-- 1 and the number of the first instruction at a place, or 0
abbrev pub number_in : List Placed → ℕ → ℕ
number_in [] pc = 0
number_in (x ∷ xs) pc = cond (nat_eq x.pc pc) 1 (one_later (number_in xs pc))

abbrev pub number_of : Option Body → ℕ → ℕ
number_of None pc = 0
number_of (Some b) pc = number_in b.code pc

abbrev pub code_of : Option Body → List Placed
code_of None = []
code_of (Some b) = b.code

-- the table of a code
abbrev pub ArePlaces : Option Body → List ℕ → Type 0
ArePlaces body numbers = (pc : ℕ) → get_or numbers pc 0 ≡ number_of body pc

-- the place after the instruction that is found, or the place itself
abbrev pub after_or : ℕ → Option Found → ℕ
after_or pc None = pc
after_or pc (Some x) = x.after

abbrev pub next_of : Option Body → ℕ → ℕ
next_of body pc = after_or pc (found_of body pc)

-- the table of the places after a code's instructions
abbrev pub AreNexts : Option Body → List ℕ → Type 0
AreNexts body nexts = (pc : ℕ) → get_or nexts pc pc ≡ next_of body pc

abbrev pub no_placed : Placed
no_placed = record { pc = 0; form = form.Nop }

-- the instruction of a number in a code whose length is end, and the place of the one after it
abbrev pub instruction : List Placed → ℕ → ℕ → Found
instruction code end i = record { form = (get_or code i no_placed).form; after = place_after (drop (suc i) code) end }

abbrev pub instruction_of : Option Body → Option ℕ → Option Found
instruction_of None n = None
instruction_of (Some b) None = None
instruction_of (Some b) (Some i) = Some (instruction b.code b.length i)

-- the number, or none at 0
abbrev pub less_one : ℕ → Option ℕ
less_one zero = None
less_one (suc i) = Some i

-- the tables of a program's methods
abbrev pub AreNumbers : Program → List (List ℕ) → Type 0
AreNumbers p tables = (m : ℕ) → ArePlaces (method_at p m).body (get_or tables m [])

abbrev pub AllNexts : Program → List (List ℕ) → Type 0
AllNexts p tables = (m : ℕ) → AreNexts (method_at p m).body (get_or tables m [])

abbrev pub AreCells : Program → List ℕ → Type 0
AreCells p counts = (c : ℕ) → get_or counts c 0 ≡ length (layout p c)

-- the tables of a program, of which the last five are seen as their programs
pub record AreTables (p : Program) (tables afters : List (List ℕ)) (sizes firsts : List ℕ) (o q r s t : Program) : Type 0 where
  pub numbers : AreNumbers p tables
  pub nexts : AllNexts p afters
  pub cells : AreCells p sizes
  pub units : AreUnits p firsts
  pub methods : o ≡ p
  pub defaults : q ≡ p
  pub trivial : r ≡ p
  pub parts : s ≡ p
  pub hierarchy : t ≡ p
