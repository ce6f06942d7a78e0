use Rattle.std.proofs.Common.{◌≡◌, take, nat_eq}
use Rattle.indexmap.specs.IndexSet.{insert_all}
use Rattle.member_lookup.proofs.cycles.note_all.Given as goal

abbrev pub invariant-loop-class : goal.invariant-loop-class
invariant-loop-class l = l.seen.keys ≡ insert_all nat_eq l.fn.seen.keys (take l.class-index l.classes)
