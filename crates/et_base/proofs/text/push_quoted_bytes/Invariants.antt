use Rattle.std.proofs.Common.{◌≡◌, ◌++◌, take}
use Rattle.std.specs.List.{flat_map}
use Rattle.et_base.specs.Quotes.{quoted_byte}
use Rattle.et_base.proofs.text.push_quoted_bytes.Given as goal

abbrev pub invariant-loop-byte : goal.invariant-loop-byte
invariant-loop-byte l = l.out ≡ l.initial.out ++ flat_map quoted_byte (take l.byte-index l.bytes)
