-- Where an instruction stands, the faults that are named there, and where it leads.
use Rattle.std.specs.Prelude.{ℕ, ℤ, pos, negsuc, ◌+ℤ◌, nat_lt, if◌then◌else◌}
use Rattle.class_pool.specs.declared.fault.{Fault.Fault, Fault.TheVariants.CutCode, Fault.TheVariants.Unsupported, Fault.TheVariants.BadOperand}
use Rattle.code_decode.specs.declared.place.Spot.{Spot}

-- the instruction isn't wholly inside the code
abbrev pub cut : Spot → Fault
cut spot = CutCode spot.method spot.pc

-- an operand is wrong
abbrev pub wrong : Spot → Fault
wrong spot = BadOperand spot.method spot.pc

-- the instruction is outside of the profile
abbrev pub foreign : Spot → ℕ → Fault
foreign spot opcode = Unsupported spot.method spot.pc opcode

-- a place in code of total bytes; what lies outside of it is -1
abbrev pub place : ℕ → ℤ → ℤ
place total (pos n) = if nat_lt n total then pos n else negsuc 0
place total (negsuc n) = negsuc 0

-- where a branch at pc, by this offset from there, leads in code of total bytes (JVMS 6.5, goto)
abbrev pub target : ℕ → ℕ → ℤ → ℤ
target total pc offset = place total (pos pc +ℤ offset)
