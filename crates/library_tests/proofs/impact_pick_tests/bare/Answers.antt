use Rattle.std.proofs.Common.{◌≤◌, List, length, ap, arith}
use Rattle.std.specs.List.{list_all}
use Rattle.class_link.specs.{declared.lines.TestLine.TestLine, Link.is_test_name}
use Rattle.jvm_model.specs.Suite.{suite_limit}
use Rattle.library_tests.proofs.impact_pick_tests.bare.Goals as goal

-- src/impact_pick_tests.rt:55:19
pub link-requires-clause-lines : goal.link-requires-clause-lines
unfolding suite_limit
link-requires-clause-lines c =
    let tests = ap length c.new.ensures in
    let files = ap length c.new-2.ensures in
    let budget : 1 ≤ suite_limit = omega arith in
    record {
      few_tests = omega arith;
      few_files = omega arith;
      names = ap (λ (xs : List TestLine). list_all is_test_name xs) c.new.ensures;
      files = λ i j h g k. absurd (omega arith);
      budget = (omega arith, budget);
    }
