use Rattle.std.proofs.Common.{refl, sym, ap, sum, ◌∙◌}
use Rattle.order_law.specs.declared.records.Record.{Record}
use Rattle.dep_record.specs.RecordText.{record_text}
use Rattle.electrictest.proofs.detections.record_report.Goals as goal

pub returns-clause-reports : goal.returns-clause-reports
returns-clause-reports g c =
    let d = c.in_ok-found.ensures.found in
    record {
      units = sum c.in_ok-found.found.units;
      report = record {
        found = d.whole;
        is = d.is;
        writes = c.in_ok-text.ensures ∙ ap (λ (r : Record). record_text r) (sym d.kept);
        ends = refl;
        counts = ap (λ (r : Record). sum r.units) (sym d.kept);
      };
      counts = c.in_ok-found.ensures.counted;
    }
