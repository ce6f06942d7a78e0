use Rattle.std.proofs.Common.{◌≡◌, take, nat_eq}
use Rattle.indexmap.specs.IndexSet.{insert_all}
use Rattle.vm_tables.proofs.hierarchy.note_all.Given as goal

abbrev pub invariant-loop-number : goal.invariant-loop-number
invariant-loop-number l = l.noted.keys ≡ insert_all nat_eq l.fn.noted.keys (take l.number-index l.numbers)
