use Rattle.std.proofs.Common.{◌≡◌, filter, take, nat_eq}
use Rattle.indexmap.specs.IndexSet.{insert_all}
use Rattle.member_lookup.specs.Walks.{is_open}
use Rattle.member_lookup.proofs.lookup.note_open.Given as goal

abbrev pub invariant-loop-method : goal.invariant-loop-method
invariant-loop-method l = l.found.keys ≡ insert_all nat_eq l.fn.found.keys (filter (λ n. is_open l.p l.name l.descriptor n) (take l.method-index l.method-items))
