use Rattle.std.proofs.Common.{◌∙◌, ap, subst, arith}
use Rattle.std.specs.List.{range_with_len}
use Rattle.order_law.specs.{declared.records.Record.Record, Reach.IsRecordOf}
use Rattle.electrictest.proofs.generated.begun_of.Goals as goal

pub returns-clause-whole : goal.returns-clause-whole
returns-clause-whole g c =
    let l = c.args.loaded.now in
    let found = c.in_ok-record.ensures.found in
    record {
      detected = found.is.detected;
      own = subst (λ (r : Record). IsRecordOf l.checked l.prints r) found.kept found.is.kept;
      tests = c.in_ok-tests.ensures.all ∙ ap (range_with_len 1) (omega (arith, c.len.ensures, c.requires.suite.names, c.requires.suite.few));
    }
