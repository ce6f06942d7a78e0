use Rattle.std.proofs.Common.{length}
use Rattle.builtin_lib.proofs.rows.+native.Given as goal

abbrev pub decreases-native : goal.decreases-native
decreases-native l = length l.rows.now
