use Rattle.std.proofs.Common.{arith, sym}
use Rattle.access_tags.proofs.FirstReads.{met_none}
use Rattle.access_tags.proofs.discovery_tree.DiscoveryTree.first.Goals as goal

pub returns-then-object-len : goal.returns-then-object-len
returns-then-object-len c p = sym (met_none c.args.self.now.met c.args.test c.args.object (omega (arith, c.len.ensures, c.if-object-len.true)) p)
