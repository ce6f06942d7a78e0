use Rattle.std.proofs.Common.{◌∙◌, ◌++◌, ◌∷◌, [], ap, arith}
use Rattle.access_tags.specs.declared.interval.Interval.{Interval}
use Rattle.access_tags.specs.Intervals.{parts_of}
use Rattle.access_tags.proofs.Spanned.{parts_longer}
use Rattle.access_tags.proofs.access_log.AccessLog.lengthen.Goals as goal

pub returns-clause-longer : goal.returns-clause-longer
returns-clause-longer c e =
    let ss = c.args.self.now.intervals in
    rw c.set.ensures (parts_longer ss _ c.get.result c.in-Some.longer c.args.part (omega arith)
    (c.in-Some.ensures.parts ∙ ap (λ (s : Interval). parts_of s ++ c.args.part ∷ []) c.get.ensures))
