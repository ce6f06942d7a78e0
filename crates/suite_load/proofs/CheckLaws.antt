-- Linking and the check joined.
use Rattle.std.proofs.Common.{◌≡◌, ℕ, List, Option, Some, Ok, Err, refl, sym, ap, subst}
use Rattle.class_reader.specs.declared.parts.ClassParts.{ClassParts}
use Rattle.jvm_model.specs.declared.program.Program.{Program}
use Rattle.order_law.specs.declared.records.Prints.{Prints}
use Rattle.class_link.specs.{declared.fault.LinkFault.LinkFault, declared.lines.TestLines.TestLines, Link.Links, Link.LinksBy}
use Rattle.class_link.specs.declared.fault.LinkFault.TheVariants as linking
use Rattle.type_frames.specs.{declared.fault.CheckFault.CheckFault, Typing.IsTyped, Typing.check_fault}
use Rattle.type_frames.specs.declared.fault.CheckFault.TheVariants as checking
use Rattle.type_checker.proofs.Typed.{typed_no_fault}
use Rattle.suite_load.specs.{declared.suite_text.SuiteText.SuiteText, LoadAnswers.Checks, LoadAnswers.check_answer}
use Rattle.suite_load.specs.declared.load_fault.LoadFault.TheVariants as fault
use Rattle.suite_load.specs.Loading.{◌>>=◌, lines_of, link_fault, typed_answer, loaded_of, checked_of, ReadGives}

pub linked_goes : (suite : SuiteText) (classes : List ClassParts) (lines : TestLines) (p q : Program) → lines ≡ lines_of suite → Links classes lines (Ok p) → q ≡ p → IsTyped p → Checks suite classes (Ok q)
unfolding checked_of
linked_goes suite classes lines p q e (cycle, by) s t = λ (sums : SuiteText → Prints).
    let here = subst (λ ls. LinksBy cycle classes ls (Ok p)) e by in
    let said = ap (λ x. typed_answer p x >>= λ typed. Ok (loaded_of suite (sums suite) typed)) (typed_no_fault p t) in
    subst (λ z. ReadGives sums (Ok (suite, classes)) (Ok (loaded_of suite (sums suite) z))) (sym s) (cycle, Ok p, here, sym said)

untyped_goes : (sums : SuiteText → Prints) (suite : SuiteText) (classes : List ClassParts) (lines : TestLines) (p : Program) (e : CheckFault) → lines ≡ lines_of suite → Links classes lines (Ok p) → check_fault p ≡ Some e → ReadGives sums (Ok (suite, classes)) (Err (fault.Check e))
unfolding checked_of
untyped_goes sums suite classes lines p e same (cycle, by) h =
    let here = subst (λ ls. LinksBy cycle classes ls (Ok p)) same by in
    let said = ap (λ x. typed_answer p x >>= λ typed. Ok (loaded_of suite (sums suite) typed)) h in
    (cycle, Ok p, here, sym said)

-- the class files link, and the program isn't typed
pub not_typed : (suite : SuiteText) (classes : List ClassParts) (lines : TestLines) (p : Program) (e : CheckFault) → lines ≡ lines_of suite → Links classes lines (Ok p) → ((e ≡ checking.NoMemory → ⊥) → check_fault p ≡ Some e) → Checks suite classes (Err (check_answer e))
not_typed suite classes lines p checking.NoMemory same l h = λ sums. tt
not_typed suite classes lines p e same l h = λ sums. untyped_goes sums suite classes lines p e same l (h (λ q. cc))

fault_goes : (sums : SuiteText → Prints) (suite : SuiteText) (classes : List ClassParts) (lines : TestLines) (f : LinkFault) → lines ≡ lines_of suite → ((cycle : Option ℕ) × LinksBy cycle classes lines (Err f)) → ReadGives sums (Ok (suite, classes)) (Err (link_fault suite f))
unfolding checked_of
fault_goes sums suite classes lines f same (cycle, by) = (cycle, Err f, subst (λ ls. LinksBy cycle classes ls (Err f)) same by, refl)

-- the class files don't link
pub not_linked : (suite : SuiteText) (classes : List ClassParts) (lines : TestLines) (f : LinkFault) → lines ≡ lines_of suite → Links classes lines (Err f) → Checks suite classes (Err (link_fault suite f))
not_linked suite classes lines linking.NoMemory same h = λ sums. tt
not_linked suite classes lines f same h = λ sums. fault_goes sums suite classes lines f same h
