use Rattle.std.proofs.Common.{◌≡◌, ℕ, ◌<◌, map, get_or, refl, ap, ◌∙◌, arith}
use Rattle.std.specs.Prelude.{None}
use Rattle.std.specs.List.{range_with_len}
use Rattle.std.proofs.lemmas.List.FromFn.{get_or-map-range_with_len}
use Rattle.code_decode.specs.{declared.opcodes.TheConstants.SHAPES, Opcodes.shape_of}
use Rattle.code_decode.proofs.opcodes.shape_of.Goals as goal

-- the table has the form of each opcode
table_is : SHAPES ≡ map shape_of (range_with_len 0 256)
unfolding shape_of
table_is = refl

read : (n : ℕ) → n < 256 → get_or SHAPES n None ≡ shape_of n
read n h = ap (λ t. get_or t n None) table_is ∙ get_or-map-range_with_len shape_of 0 256 n n None h (omega arith)

pub returns : goal.returns
returns c = rw c.from.ensures (read c.args.opcode (omega arith))
