-- The operands that an instruction holds.
use Rattle.std.specs.Prelude.{ℤ, List, []}
use Rattle.code_decode.specs.declared.args.Held.{Held}
use Rattle.code_decode.specs.declared.args.Held.TheVariants as held

abbrev pub held_args : Held → List ℤ
held_args held.None = []
held_args (held.One one) = one.args
held_args (held.Two two) = two.args
held_args (held.Many args) = args.value
