use Rattle.std.proofs.Common.{◌≡◌, filter, take}
use Rattle.indexmap.specs.IndexMap.{keys}
use Rattle.std.specs.Option.{option_to_list}
use Rattle.member_lookup.specs.Walks.{is_kept}
use Rattle.member_lookup.proofs.lookup.one_or_first.Given as goal

abbrev pub invariant-loop-method : goal.invariant-loop-method
invariant-loop-method l = filter (λ m. is_kept l.p (keys l.above) m) (take l.method-index l.methods) ≡ option_to_list l.one
