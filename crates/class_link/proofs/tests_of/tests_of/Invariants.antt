use Rattle.std.proofs.Common.{◌≡◌, drop, length, []}
use Rattle.class_link.specs.Link as links
use Rattle.class_link.proofs.tests_of.tests_of.Given as goal

-- the tests so far and those of what is left
abbrev pub invariant-loop-line : goal.invariant-loop-line
invariant-loop-line l = record {
  count : length l.tests ≡ l.line-index;
  rest : links.tests_of l.setting l.budget l.tests (drop l.line-index l.lines) ≡ links.tests_of l.setting l.budget [] l.lines;
}
