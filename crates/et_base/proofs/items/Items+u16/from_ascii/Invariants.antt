use Rattle.std.proofs.Common.{◌≡◌, take}
use Rattle.et_base.proofs.items.Items+u16.from_ascii.Given as goal

abbrev pub invariant-loop-byte : goal.invariant-loop-byte
invariant-loop-byte l = l.units.items ≡ take l.byte-index l.text
