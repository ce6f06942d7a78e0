-- The bytes of instructions, as they are written. Padding is written as zeros.
use Rattle.std.specs.Prelude.{ℕ, ◌/◌, ℤ, pos, ◌-ℤ◌, nat_abs, List, [], ◌∷◌, ◌++◌, length, Option, Some, None, replicate, if◌then◌else◌}
use Rattle.std.specs.List.{flat_map}
use Rattle.std.specs.Int.{Width, w8, w16, w32, to_be_bytes, cast_unsigned}
use Rattle.code_decode.specs.declared.{instructions.RawOp.RawOp, decoding.Code.Code, opcodes.Shape.Shape}
use Rattle.code_decode.specs.declared.opcodes.Shape.TheVariants as shape
use Rattle.code_decode.specs.{Opcodes.shape_of, Opcodes.takes_local, Switches.padding}

-- a number that isn't negative
abbrev pub number_bytes : Width → ℤ → List ℕ
number_bytes w z = to_be_bytes w (nat_abs z)

-- a signed number
abbrev pub signed_bytes : Width → ℤ → List ℕ
signed_bytes w z = to_be_bytes w (cast_unsigned w z)

-- a place, as its offset from pc
abbrev pub offset_bytes : Width → ℕ → ℤ → List ℕ
offset_bytes w pc z = signed_bytes w (z -ℤ pos pc)

-- keys and places in turn
abbrev pub pair_bytes : ℕ → List ℤ → List ℕ
pair_bytes pc (key ∷ to ∷ pairs) = signed_bytes w32 key ++ (offset_bytes w32 pc to ++ pair_bytes pc pairs)
pair_bytes pc _ = []

-- one operand, of which view gives the bytes
abbrev pub one_bytes : (ℤ → List ℕ) → List ℤ → List ℕ
one_bytes view (a ∷ []) = view a
one_bytes view _ = []

abbrev pub two_bytes : (ℤ → List ℕ) → (ℤ → List ℕ) → List ℤ → List ℕ
two_bytes first second (a ∷ b ∷ []) = first a ++ second b
two_bytes first second _ = []

abbrev pub table_bytes : ℕ → List ℤ → List ℕ
table_bytes pc (other ∷ low ∷ high ∷ places) = (replicate (padding pc) 0 ++ offset_bytes w32 pc other) ++ ((signed_bytes w32 low ++ signed_bytes w32 high) ++ flat_map (offset_bytes w32 pc) places)
table_bytes pc _ = []

abbrev pub lookup_bytes : ℕ → List ℤ → List ℕ
lookup_bytes pc (other ∷ pairs) = (replicate (padding pc) 0 ++ offset_bytes w32 pc other) ++ (to_be_bytes w32 (length pairs / 2) ++ pair_bytes pc pairs)
lookup_bytes pc [] = []

-- the operands of each form
abbrev pub args_bytes : ℕ → Shape → List ℤ → List ℕ
args_bytes pc shape.Plain args = []
args_bytes pc shape.Byte args = one_bytes (signed_bytes w8) args
args_bytes pc shape.Short args = one_bytes (signed_bytes w16) args
args_bytes pc shape.Local args = one_bytes (number_bytes w8) args
args_bytes pc shape.Increment args = two_bytes (number_bytes w8) (signed_bytes w8) args
args_bytes pc (shape.Near constant) args = one_bytes (number_bytes w8) args
args_bytes pc (shape.Far constant) args = one_bytes (number_bytes w16) args
args_bytes pc (shape.Entry named) args = one_bytes (number_bytes w16) args
args_bytes pc shape.Interface args = two_bytes (number_bytes w16) (λ count. number_bytes w8 count ++ 0 ∷ []) args
args_bytes pc shape.Kind args = one_bytes (number_bytes w8) args
args_bytes pc shape.Dimensions args = two_bytes (number_bytes w16) (number_bytes w8) args
args_bytes pc shape.Branch args = one_bytes (offset_bytes w16 pc) args
args_bytes pc shape.FarBranch args = one_bytes (offset_bytes w32 pc) args
args_bytes pc shape.Table args = table_bytes pc args
args_bytes pc shape.Lookup args = lookup_bytes pc args

abbrev pub shaped_bytes : ℕ → Option Shape → List ℤ → List ℕ
shaped_bytes pc None args = []
shaped_bytes pc (Some form) args = args_bytes pc form args

-- behind wide: a load or a store, or iinc
abbrev pub wide_args_bytes : ℕ → List ℤ → List ℕ
wide_args_bytes opcode args = if takes_local opcode then one_bytes (number_bytes w16) args else two_bytes (number_bytes w16) (signed_bytes w16) args

-- an instruction; 196 is wide
abbrev pub op_bytes : RawOp → List ℕ
op_bytes o = if o.wide then to_be_bytes w8 196 ++ (to_be_bytes w8 o.opcode ++ wide_args_bytes o.opcode o.args)
    else to_be_bytes w8 o.opcode ++ shaped_bytes o.pc (shape_of o.opcode) o.args

abbrev pub code_spelling : Code → List ℕ
code_spelling code = flat_map op_bytes code.ops
