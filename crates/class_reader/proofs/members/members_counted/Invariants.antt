use Rattle.std.proofs.Common.{◌≡◌, ◌-◌, [], length}
use Rattle.class_pool.specs.Loops.{counted}
use Rattle.class_reader.specs.Texts.{IsSeen}
use Rattle.class_reader.proofs.members.members_counted.Given as goal

abbrev pub invariant-loop-i : goal.invariant-loop-i
invariant-loop-i g l = record {
  so_far : counted (λ before _ b. g.K.Kind.member_at l.texts before b) l.members (l.count - l.i) l.rest ≡ counted (λ before _ b. g.K.Kind.member_at l.texts before b) [] l.count l.bytes;
  seen : IsSeen l.texts l.members l.keys;
  len : length l.members ≡ l.i;
}
