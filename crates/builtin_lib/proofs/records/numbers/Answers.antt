use Rattle.std.proofs.Common.{refl, rules}
use Rattle.et_base.proofs.Ranges.{range_more}
use Rattle.builtin_lib.proofs.records.numbers.Goals as goal

-- one more number
pub loop-place-preserved : goal.loop-place-preserved
loop-place-preserved c = rw (range_more c.args.from c.loop-place.place _ refl) (search rules)
