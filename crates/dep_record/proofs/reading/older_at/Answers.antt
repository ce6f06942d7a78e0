use Rattle.std.proofs.Common.{◌+◌, refl}
use Rattle.order_law.specs.RecordForm.{is_reach_form}
use Rattle.dep_record.specs.RecordReading.{pieces}
use Rattle.dep_record.proofs.SaidLaws.{read_form}
use Rattle.dep_record.proofs.reading.older_at.Goals as goal

pub invariant_of-result-clause-form : goal.invariant_of-result-clause-form
invariant_of-result-clause-form c =
    let rest = pieces c.in_ok-units.rest.now in
    read_form c.args.tests 4 (4 + c.args.tests) (pieces c.args.text.now) rest c.in_ok-units.units c.in_ok-edges.edges c.requires c.in_ok-units.ensures rest c.in_ok-edges.ensures

pub invariant_of-result-clause-more_form : goal.invariant_of-result-clause-more_form
unfolding is_reach_form
invariant_of-result-clause-more_form c = refl
