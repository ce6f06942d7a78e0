use Rattle.std.proofs.Common.{[], ◌++◌, codes, ap, subst}
use Rattle.sha2.specs.Hashers.{Holds256}
use Rattle.suite_load.proofs.SumLaws.{bytes_none}
use Rattle.suite_load.proofs.print_sums.PrintSums.of.Goals as goal

pub returns-clause-sums : goal.returns-clause-sums
returns-clause-sums c = record {
  digest = subst (Holds256 c.add_sized.new.sum) (bytes_none c.args.suite.now) (c.add_sized.ensures [] c.new-digest.ensures);
  eager = subst (Holds256 c.add_sized-2.new.sum) (ap (λ z. codes "eager" ++ z) (bytes_none c.args.suite.now)) (c.add_sized-2.ensures (codes "eager") (c.update.ensures [] c.new-eager.ensures));
  suite = cc;
  classes = cc;
}
