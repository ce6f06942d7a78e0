use Rattle.std.proofs.Common.{◌∙◌}
use Rattle.cone_run.proofs.TallyLaws.{reported}
use Rattle.cone_run.proofs.cone_report.cones_text.Goals as goal

pub returns : goal.returns
returns c =
    reported c.args.names.now c.args.tests.now c.args.pieces.now c.requires.each c.count_run.result c.in_ok-tally.tally c.new-out.result c.push_begin.new.out c.as_slice.result.now c.as_slice-2.result.now c.extend_from_slice.new.self c.extend_from_slice-2.new.self
    c.in_ok-tally.ensures c.count_run.ensures c.new-out.ensures c.in_ok-push_begin.ensures c.as_slice.ensures c.in_ok-extend_from_slice.ensures.pushed (c.as_slice-2.ensures ∙ c.in_ok-counted.ensures) c.in_ok-extend_from_slice-2.ensures.pushed
