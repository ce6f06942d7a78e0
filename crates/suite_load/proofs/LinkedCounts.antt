-- A program has a test for each test line, and a class for each class file behind the built-in ones.
use Rattle.std.proofs.Common.{◌≡◌, ℕ, ◌+◌, List, [], length, refl, sym, ap, ◌∙◌, arith, Ok}
use Rattle.std.proofs.lemmas.List.{Elements.All-nil, length-map}
use Rattle.class_reader.specs.declared.parts.ClassParts.{ClassParts}
use Rattle.jvm_model.specs.{declared.program.Program.Program, declared.program.TestEntry.TestEntry, Builtin.builtin_count}
use Rattle.class_link.specs.{declared.lines.TestLines.TestLines, Assembly.assembled, Bodies.linked_body, Link.setting, Link.program_of, Link.AreLines, Link.Links}
use Rattle.class_link.proofs.{Assembled.class_count, LinkLaw.parts_by, SuiteTests.all_good}
use Rattle.suite_load.specs.{declared.suite_text.SuiteText.SuiteText, Loading.line_of, Loading.lines_of}

tests_assembled : (cs : List ClassParts) (ts : List TestEntry) (files : List (List ℕ × List ℕ)) → (program_of cs ts files).tests ≡ ts
unfolding assembled
tests_assembled cs ts files = refl

-- the tests of the program of a suite text
pub tests_linked : (suite : SuiteText) (cs : List ClassParts) (lines : TestLines) (p q : Program) → AreLines lines → lines ≡ lines_of suite → Links cs lines (Ok p) → q ≡ p → length q.tests ≡ length suite.tests
tests_linked suite cs lines p q are e (cycle, by) s =
    let l = parts_by cs lines cycle p (sym by.1) in
    let good = all_good (λ c code. linked_body (setting cs) c.pool code) cs l.tests lines.files lines.budget are.budget [] lines.tests l.tests (All-nil _) are.names l.tests_are in
    let many : length l.tests ≡ length lines.tests = omega (arith, good.1) in
    ap (λ (z : Program). length z.tests) (s ∙ sym l.is) ∙ ap (λ (ts : List TestEntry). length ts) (tests_assembled cs l.tests lines.files) ∙ many ∙ ap (λ (z : TestLines). length z.tests) e ∙ length-map suite.tests line_of

-- its classes
pub classes_linked : (cs : List ClassParts) (lines : TestLines) (p q : Program) → Links cs lines (Ok p) → q ≡ p → length q.classes ≡ builtin_count + length cs
classes_linked cs lines p q (cycle, by) s =
    let l = parts_by cs lines cycle p (sym by.1) in
    ap (λ (z : Program). length z.classes) (s ∙ sym l.is) ∙ class_count (λ c code. linked_body (setting cs) c.pool code) cs l.tests lines.files
