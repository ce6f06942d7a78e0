use Rattle.std.proofs.Common.{◌≡◌, ◌++◌, take}
use Rattle.std.specs.{List.flat_map, Int.w32}
use Rattle.code_decode.specs.Spelling.{offset_bytes}
use Rattle.class_write.proofs.operands.put_places.Given as goal

abbrev pub invariant-loop-place : goal.invariant-loop-place
invariant-loop-place l = l.out.items ≡ l.fn.out.items ++ flat_map (offset_bytes w32 l.pc) (take l.place-index l.places)
