use Rattle.dep_record.proofs.AppendLaws.{four_appended}
use Rattle.dep_record.proofs.report_text.push_later.Goals as goal

pub returns : goal.returns
returns c =
    four_appended _ _ _ _ _ _ _ _ _ c.in_ok-extend_from_slice.ensures.pushed (rw c.test_name.ensures at c.in_ok-extend_from_slice-2.ensures.pushed) c.in_ok-extend_from_slice-3.ensures.pushed c.in_ok-push_decimal.ensures
