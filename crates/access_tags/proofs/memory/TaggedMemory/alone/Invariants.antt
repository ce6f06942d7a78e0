use Rattle.std.proofs.Common.{◌≡◌, map, take}
use Rattle.access_tags.specs.declared.ended.Ended.{Ended}
use Rattle.access_tags.proofs.memory.TaggedMemory.alone.Given as goal

abbrev pub invariant-loop-test : goal.invariant-loop-test
invariant-loop-test g l = l.alone.items ≡ map (λ (x : Ended). x.alone) (take l.test-index l.self.ended)
