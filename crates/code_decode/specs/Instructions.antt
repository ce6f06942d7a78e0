-- Instructions: how each is taken, one after the other, and the first fault.
use Rattle.std.specs.Prelude.{ℕ, ℤ, ◌-◌, List, [], length, Option, Some, None, Result, Ok, Err, Bool, true, false, ◌==◌, if◌then◌else◌}
use Rattle.std.specs.Int.{w8, w16, w32}
use Rattle.class_pool.specs.{declared.fault.Fault.Fault, declared.pool.Entry.Entry, Reading.number_or, Loops.to_end, Pool.entry_of}
use Rattle.et_base.specs.Answers.{◌>>=◌}
use Rattle.code_decode.specs.declared.{place.Spot.Spot, instructions.RawOp.RawOp, opcodes.Shape.Shape}
use Rattle.code_decode.specs.declared.opcodes.Shape.TheVariants as shape
use Rattle.code_decode.specs.{Place.cut, Place.foreign, Opcodes.shape_of, Opcodes.takes_local, Switches.table_at, Switches.lookup_at}
use Rattle.code_decode.specs.Judging.{constant_fit, named_fit, kind_fit}
use Rattle.code_decode.specs.Operands.{signed_at, local_at, branch_at, increment_at, fitting_at, interface_at, dimensions_at}

abbrev pub op : ℕ → ℕ → Bool → List ℤ → RawOp
op pc opcode wide args = record { pc = pc; opcode = opcode; wide = wide; args = args }

-- the operands of each form
unfoldable pub args_at : List (Option Entry) → Spot → ℕ → Shape → List ℕ → Result (List ℤ × List ℕ) Fault
args_at slots spot opcode shape.Plain bytes = Ok ([], bytes)
args_at slots spot opcode shape.Byte bytes = signed_at w8 spot bytes
args_at slots spot opcode shape.Short bytes = signed_at w16 spot bytes
args_at slots spot opcode shape.Local bytes = local_at w8 spot bytes
args_at slots spot opcode shape.Increment bytes = increment_at w8 spot bytes
args_at slots spot opcode (shape.Near constant) bytes = fitting_at w8 (λ n. constant_fit constant (entry_of slots n)) spot opcode bytes
args_at slots spot opcode (shape.Far constant) bytes = fitting_at w16 (λ n. constant_fit constant (entry_of slots n)) spot opcode bytes
args_at slots spot opcode (shape.Entry named) bytes = fitting_at w16 (λ n. named_fit named slots (entry_of slots n)) spot opcode bytes
args_at slots spot opcode shape.Interface bytes = interface_at slots spot bytes
args_at slots spot opcode shape.Kind bytes = fitting_at w8 kind_fit spot opcode bytes
args_at slots spot opcode shape.Dimensions bytes = dimensions_at slots spot bytes
args_at slots spot opcode shape.Branch bytes = branch_at w16 spot bytes
args_at slots spot opcode shape.FarBranch bytes = branch_at w32 spot bytes
args_at slots spot opcode shape.Table bytes = table_at spot bytes
args_at slots spot opcode shape.Lookup bytes = lookup_at spot bytes

-- an instruction whose opcode has operands of this form, if it is in the profile
unfoldable pub shaped_at : List (Option Entry) → Spot → ℕ → Option Shape → List ℕ → Result (RawOp × List ℕ) Fault
shaped_at slots spot opcode None bytes = Err (foreign spot opcode)
shaped_at slots spot opcode (Some form) bytes = do
  args ← args_at slots spot opcode form bytes
  Ok (op spot.pc opcode false args.0, args.1)

-- the operands behind wide: a load or a store, or iinc (132)
unfoldable pub wide_args_at : Spot → ℕ → List ℕ → Result (List ℤ × List ℕ) Fault
wide_args_at spot opcode bytes = if takes_local opcode then local_at w16 spot bytes else if opcode == 132 then increment_at w16 spot bytes else Err (foreign spot 196)

-- an instruction behind wide
unfoldable pub wide_at : Spot → List ℕ → Result (RawOp × List ℕ) Fault
wide_at spot bytes = do
  opcode ← number_or (cut spot) w8 bytes
  args ← wide_args_at spot opcode.0 opcode.1
  Ok (op spot.pc opcode.0 true args.0, args.1)

-- an instruction; 196 is wide
unfoldable pub op_at : List (Option Entry) → Spot → List ℕ → Result (RawOp × List ℕ) Fault
op_at slots spot bytes = do
  opcode ← number_or (cut spot) w8 bytes
  if opcode.0 == 196 then wide_at spot opcode.1 else shaped_at slots spot opcode.0 (shape_of opcode.0) opcode.1

-- where an instruction stands, by what is left of the code
abbrev pub spot_at : ℕ → ℕ → List ℕ → Spot
spot_at method total rest = record { method = method; total = total; pc = total - length rest }

-- all instructions of a code
unfoldable pub ops_at : ℕ → List (Option Entry) → List ℕ → Result (List RawOp) Fault
ops_at method slots bytes = to_end (λ _ rest. op_at slots (spot_at method (length bytes) rest) rest) [] (length bytes) bytes
