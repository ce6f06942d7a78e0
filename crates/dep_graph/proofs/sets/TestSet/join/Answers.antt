-- All words are joined at the end.
use Rattle.std.proofs.Common.{◌/◌, ◌%◌, arith}
use Rattle.dep_graph.specs.Sets.{holds}
use Rattle.dep_graph.proofs.Bits.{joined_held}
use Rattle.dep_graph.proofs.sets.TestSet.join.Goals as goal

pub returns : goal.returns
unfolding holds
returns c = λ u. joined_held c.loop-i.self.words c.args.self.now.words c.args.other.now.words (λ k h. c.loop-i.invariant.joined k (omega arith)) c.loop-i.invariant.beyond (λ k h. c.loop-i.invariant.rest k (omega arith)) (u / 64) (u % 64)
