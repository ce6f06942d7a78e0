use Rattle.std.proofs.Common.{◌+◌}
use Rattle.dep_record.specs.RecordReading.{pieces}
use Rattle.dep_record.proofs.SaidLaws.{read_form, read_reach_form}
use Rattle.dep_record.proofs.reading.with_classes_at.Goals as goal

pub invariant_of-result-clause-form : goal.invariant_of-result-clause-form
invariant_of-result-clause-form c =
    let tests = c.args.tests in
    let second = 6 + c.args.count in
    read_form tests second (second + tests + tests) (pieces c.in_ok-classes.rest.now) (pieces c.in_ok-units.rest.now) c.in_ok-units.units c.in_ok-edges.edges c.requires.tests c.in_ok-units.ensures (pieces c.in_ok-reach.rest.now) c.in_ok-edges.ensures

pub invariant_of-result-clause-more_form : goal.invariant_of-result-clause-more_form
invariant_of-result-clause-more_form c =
    let count = c.args.count in
    let tests = c.args.tests in
    let left = pieces c.in_ok-classes.rest.now in
    let after = pieces c.in_ok-units.rest.now in
    read_reach_form count tests 6 (6 + count) (6 + count + tests) c.in_ok-units.units c.args.suite c.in_ok-classes.classes c.in_ok-reach.reach (pieces c.args.text.now) left left after after (pieces c.in_ok-reach.rest.now)
    c.requires.count c.in_ok-classes.ensures c.in_ok-units.ensures c.in_ok-reach.ensures
