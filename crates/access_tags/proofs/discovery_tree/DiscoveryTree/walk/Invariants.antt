use Rattle.std.proofs.Common.{◌≡◌, length}
use Rattle.access_tags.proofs.Walked.{Goes}
use Rattle.access_tags.proofs.discovery_tree.DiscoveryTree.walk.Given as goal

abbrev pub invariant-loop-step : goal.invariant-loop-step
invariant-loop-step l = record { goes : Goes l.self.met l.test l.object l.at l.reads.items; steps : length l.reads.items ≡ l.step }
