-- A whole code: how it is taken, the first fault, and what an answer says of that.
use Rattle.std.specs.Prelude.{◌≡◌, ℕ, List, length, Option, Result, Ok, Err}
use Rattle.class_pool.specs.declared.{fault.Fault.Fault, fault.ReadError.ReadError, pool.Entry.Entry}
use Rattle.class_pool.specs.declared.fault.Fault.TheVariants as faults
use Rattle.class_pool.specs.declared.fault.ReadError.TheVariants as errors
use Rattle.et_base.specs.Answers.{◌>>=◌}
use Rattle.code_decode.specs.{declared.decoding.Code.Code, declared.decoding.CodeFault.CodeFault, Instructions.ops_at, Targets.is_start, Targets.targets_fit}
use Rattle.code_decode.specs.declared.decoding.CodeFault.TheVariants as code

-- all instructions, and then the places that they lead to
unfoldable pub code_at : ℕ → List (Option Entry) → List ℕ → Result Code Fault
code_at method slots bytes = do
  ops ← ops_at method slots bytes
  fit ← targets_fit method (is_start ops (length bytes)) ops
  Ok (record { length = length bytes; ops = ops })

-- a fault of the code of this method
abbrev pub IsOfCode : ℕ → Fault → Type 0
IsOfCode method (faults.CutCode m pc) = m ≡ method
IsOfCode method (faults.Unsupported m pc opcode) = m ≡ method
IsOfCode method (faults.BadOperand m pc) = m ≡ method
IsOfCode method (faults.BadTarget m pc) = m ≡ method
IsOfCode method _ = ⊥

-- an error of reading the code of this method
abbrev pub IsCodeError : ℕ → ReadError → Type 0
IsCodeError method errors.Memory = Unit {0}
IsCodeError method (errors.Fault f) = IsOfCode method f

-- A fault that is answered is the one that reading a code by itself, of method 0, meets.
abbrev pub Faults : CodeFault → Result Code Fault → Type 0
Faults code.NoMemory read = Unit {0}
Faults (code.CutCode pc) read = read ≡ Err (faults.CutCode 0 pc)
Faults (code.Unsupported pc opcode) read = read ≡ Err (faults.Unsupported 0 pc opcode)
Faults (code.BadOperand pc) read = read ≡ Err (faults.BadOperand 0 pc)
Faults (code.BadTarget pc) read = read ≡ Err (faults.BadTarget 0 pc)

-- The answer is what reading gives, or its first fault, unless memory ran out.
abbrev pub Answers : Result Code CodeFault → Result Code Fault → Type 0
Answers (Ok c) read = read ≡ Ok c
Answers (Err e) read = Faults e read
