use Rattle.std.proofs.Common.{◌≡◌, drop, find, flat_map}
use Rattle.jvm_model.specs.{Classes.class_at, Lookup.is_field}
use Rattle.member_lookup.proofs.lookup.field_in.Given as goal

abbrev pub invariant-loop-class : goal.invariant-loop-class
invariant-loop-class l = find (λ n. is_field l.p l.name l.descriptor n) (flat_map (λ d. (class_at l.p d).fields) (drop l.class-index l.classes)) ≡ find (λ n. is_field l.p l.name l.descriptor n) (flat_map (λ d. (class_at l.p d).fields) l.classes)
