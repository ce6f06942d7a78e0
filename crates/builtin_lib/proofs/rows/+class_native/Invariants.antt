use Rattle.std.proofs.Common.{length}
use Rattle.builtin_lib.proofs.rows.+class_native.Given as goal

abbrev pub decreases-class_native : goal.decreases-class_native
decreases-class_native l = length l.rows.now
