use Rattle.std.proofs.Common.{length}
use Rattle.type_checker.proofs.build.+push_all_needs.Given as goal

abbrev pub decreases-push_all_needs : goal.decreases-push_all_needs
decreases-push_all_needs l = length l.texts.now
