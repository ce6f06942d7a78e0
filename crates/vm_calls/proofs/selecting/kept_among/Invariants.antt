use Rattle.std.proofs.Common.{◌≡◌, filter, take}
use Rattle.member_lookup.specs.Walks.{is_kept}
use Rattle.vm_calls.proofs.selecting.kept_among.Given as goal

abbrev pub invariant-loop-method : goal.invariant-loop-method
invariant-loop-method l = l.kept ≡ filter (λ n. is_kept l.p l.above.keys n) (take l.method-index l.methods)
