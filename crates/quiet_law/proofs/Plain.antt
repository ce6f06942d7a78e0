-- The rows that use no class are the same for the program without quiet initialisers.
use Rattle.std.proofs.Common.{◌≡◌}
use Rattle.jvm_model.specs.{declared.instr.Instr.Instr, declared.program.Program.Program, Entries.Entries, Linked.Linked}
use Rattle.jvm_model.specs.Step.{Group, moves, arith, branches, fields, arrays, casts, returns, row_of}
use Rattle.order_law.specs.{Numbers.same_numbers, Forms.PairedInstr}
use Rattle.order_law.proofs.{Twins.Twins, Combinators.Frames, Combinators.Rows}
use Rattle.order_law.proofs.PlainRows.{moves-paired, arith-paired, branches-paired, return-paired}
use Rattle.order_law.proofs.ObjectRows.{fields-paired, arrays-paired, casts-paired}
use Rattle.quiet_init.specs.Quiet.{quiet}
use Rattle.quiet_law.proofs.{Matching.matched, Together.one_place}

abbrev pub twins : (p : Program) → Linked p → Twins
twins p lk = record { numbers = same_numbers; place = λ a b. a ≡ b; one = one_place; left = p; right = quiet p; matched = matched p lk }

-- of seven groups
abbrev pub IsPlain : Group → Type 0
IsPlain moves = Unit {0}
IsPlain arith = Unit {0}
IsPlain branches = Unit {0}
IsPlain fields = Unit {0}
IsPlain arrays = Unit {0}
IsPlain casts = Unit {0}
IsPlain returns = Unit {0}
IsPlain _ = ⊥

pub plain-paired : (p : Program) (lk : Linked p) (g : Group) → IsPlain g → {i j : Instr} {s t : Entries} → PairedInstr same_numbers i j → Frames (twins p lk) s t → Rows (twins p lk) (row_of g p i s) (row_of g (quiet p) j t)
plain-paired p lk moves h i f = moves-paired (twins p lk) i f
plain-paired p lk arith h i f = arith-paired (twins p lk) i f
plain-paired p lk branches h i f = branches-paired (twins p lk) i f
plain-paired p lk fields h i f = fields-paired (twins p lk) i f
plain-paired p lk arrays h i f = arrays-paired (twins p lk) i f
plain-paired p lk casts h i f = casts-paired (twins p lk) i f
plain-paired p lk returns h i f = return-paired (twins p lk) i f
plain-paired p lk _ h i f = absurd h
