use Rattle.std.proofs.Common.{refl, sym}
use Rattle.electrictest.specs.TestNames.{units_in}
use Rattle.electrictest.proofs.wholes.whole_report.Goals as goal

pub returns-clause-reports : goal.returns-clause-reports
returns-clause-reports g c =
    let os = c.in_ok-outcomes.outcomes in
    let ran = c.in_ok-outcomes.ensures.ran in
    record {
      units = units_in os;
      report = record {
        outcomes = os;
        within = ran.within;
        ran = ran.ran;
        verdicts = sym (rw c.as_slice.ensures at c.in_ok-report.ensures.passed);
        reports = rw c.as_slice.ensures at c.in_ok-report.ensures.text;
        sum = refl;
      };
      counts = c.in_ok-outcomes.ensures.counted;
    }
