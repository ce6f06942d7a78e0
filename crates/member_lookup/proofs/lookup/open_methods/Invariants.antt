use Rattle.std.proofs.Common.{◌≡◌, filter, flat_map, take, nat_eq, []}
use Rattle.indexmap.specs.IndexSet.{insert_all}
use Rattle.jvm_model.specs.Classes.{class_at}
use Rattle.member_lookup.specs.Walks.{is_open}
use Rattle.member_lookup.proofs.lookup.open_methods.Given as goal

abbrev pub invariant-loop-class : goal.invariant-loop-class
invariant-loop-class l = l.found.keys ≡ insert_all nat_eq [] (flat_map (λ c. filter (λ n. is_open l.p l.name l.descriptor n) (class_at l.p c).methods) (take l.class-index l.classes))
