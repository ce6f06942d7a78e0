use Rattle.suite_load.proofs.SummaryLaws.{summary_more}
use Rattle.suite_load.proofs.lines_before.LinesBefore.with.Goals as goal

pub add_line-requires : goal.add_line-requires
add_line-requires c =
    let s = c.self.invariant in
    rw (s.class_list, s.file_list, s.test_list, c.self.view_is) c.requires

pub invariant_of-self : goal.invariant_of-self
invariant_of-self c =
    let b = c.self.inside in
    let n = c.in_ok-add_line.ensures in
    rw (n.lines, c.max.ensures, c.place_of.ensures, c.is_ended_by.ensures, n.classes, n.files, n.tests)
    (summary_more b.lines.items b.last b.ended b.classes b.files b.tests c.self.invariant c.args.line)
