use Rattle.std.proofs.Common.{rules, refl}
use Rattle.suite_load.specs.SuiteForm.{is_in_order, is_ended, suite_from}
use Rattle.suite_load.proofs.lines_before.LinesBefore.new.Goals as goal

pub invariant_of-result : goal.invariant_of-result
unfolding is_in_order is_ended suite_from
invariant_of-result c = rw (c.new.ensures.items) (record {
  order = λ place. search rules;
  end = refl;
  class_list = c.new-2.ensures;
  file_list = c.new-3.ensures;
  test_list = c.new-4.ensures;
})
