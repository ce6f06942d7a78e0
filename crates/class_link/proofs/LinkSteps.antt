-- Linking step by step.
use Rattle.std.proofs.Common.{◌≡◌, ◌⊎◌, ℕ, ◌+◌, ◌<◌, ◌≤◌, ◌^◌, List, [], length, take, Option, Some, None, Result, Ok, Err, refl, sym, ap, subst, ◌∙◌, arith, inl, inr}
use Rattle.std.specs.Result.{IsErrAnd}
use Rattle.class_reader.specs.declared.parts.ClassParts.{ClassParts}
use Rattle.jvm_model.specs.{declared.program.Program.Program, declared.program.TestEntry.TestEntry, Builtin.builtin_count, Library.builtin_classes}
use Rattle.class_link.specs.declared.{fault.LinkFault.LinkFault, lines.TestLine.TestLine, lines.TestLines.TestLines}
use Rattle.class_link.specs.declared.fault.LinkFault.TheVariants as fault
use Rattle.class_link.specs.{Answers.Fails, Assembly.skeleton, Assembly.bare_body, References.LinkEnvironment}
use Rattle.class_link.specs.Faults.{first_some, duplicate_fault, supertypes_fault, all_references_fault}
use Rattle.member_lookup.specs.Ancestors.{IsFirstCycle}
use Rattle.et_base.specs.Answers.{◌>>=◌}
use Rattle.class_link.specs.Link.{setting, unless, cycle_fault, tests_of, program_of, link_by, LinksBy, Links, IsCycleFault}
use Rattle.class_link.proofs.Assembled.{holds_builtins, class_count}

-- ---- the skeleton

pub skeleton_builtins : (p : Program) (cs : List ClassParts) → p ≡ skeleton cs → take builtin_count p.classes ≡ builtin_classes
skeleton_builtins p cs is = ap (λ (q : Program). take builtin_count q.classes) is ∙ (holds_builtins (λ c code. bare_body code) cs [] []).classes

pub skeleton_few : (p : Program) (cs : List ClassParts) → p ≡ skeleton cs → length cs ≤ 1024 → length p.classes < 2 ^ 32
skeleton_few p cs is few =
    let n : length p.classes ≡ builtin_count + length cs = ap (λ (q : Program). length q.classes) is ∙ class_count (λ c code. bare_body code) cs [] [] in
    omega (arith, n, few)

-- ---- answers

-- an answer that is an error is that of linking, unless it is want of memory
said : (cs : List ClassParts) (lines : TestLines) (f : LinkFault) {X : Type 0} (given : Result X LinkFault) → Fails f given → (given ≡ Err f → (cycle : Option ℕ) × LinksBy cycle cs lines (Err f)) → Links cs lines (Err f)
said cs lines fault.NoMemory given h k = tt
said cs lines _ given h k = k h

abbrev failed : LinkFault → Result (Unit {0}) LinkFault
failed f = Err f

itself : (f : LinkFault) → Fails f (failed f)
itself fault.NoMemory = tt
itself _ = refl

unless_some : (o : Option LinkFault) (f : LinkFault) → unless o ≡ Err f → o ≡ None → ⊥
unless_some None f e h = absurd cc
unless_some (Some g) f e h = absurd cc

-- an answer that passes a fault on
pub passes_on : (cs : List ClassParts) (lines : TestLines) (result : Result Program LinkFault) (f : LinkFault) → IsErrAnd result (λ x. x ≡ f) → Links cs lines (Err f) → Links cs lines result
passes_on cs lines (Ok p) f h k = absurd h
passes_on cs lines (Err g) f h k = subst (λ x. Links cs lines (Err x)) (sym h) k

module _ (cs : List ClassParts) (lines : TestLines) (s : LinkEnvironment) (is : s ≡ setting cs) where
  abbrev names : Result (Unit {0}) LinkFault
  names = unless (duplicate_fault cs)

  abbrev supertypes : Result (Unit {0}) LinkFault
  supertypes = unless (first_some (supertypes_fault s) cs)

  abbrev references : Result (Unit {0}) LinkFault
  references = unless (all_references_fault s builtin_count cs)

  abbrev tests : Result (List TestEntry) LinkFault
  tests = tests_of s lines.budget [] lines.tests

  abbrev after_tests : Result (List TestEntry) LinkFault → Result Program LinkFault
  after_tests t = t >>= (λ ts. Ok (program_of cs ts lines.files))

  abbrev after_all : Result (Unit {0}) LinkFault → Result (Unit {0}) LinkFault → Result (Unit {0}) LinkFault → Result (Unit {0}) LinkFault → Result (List TestEntry) LinkFault → Result Program LinkFault
  after_all a b c d t = a >>= (λ _. b >>= (λ _. c >>= (λ _. d >>= (λ _. after_tests t))))

  linked_is : (cycle : Option ℕ) → link_by cycle cs lines ≡ after_all names supertypes (unless (cycle_fault cs cycle)) references tests
  unfolding link_by
  linked_is cycle = ap (λ (z : LinkEnvironment). after_all names (unless (first_some (supertypes_fault z) cs)) (unless (cycle_fault cs cycle)) (unless (all_references_fault z builtin_count cs)) (tests_of z lines.budget [] lines.tests)) (sym is)

  pub names_said : (f : LinkFault) → Fails f names → Links cs lines (Err f)
  names_said f h = said cs lines f names h (λ e. (
    None,
    (
      (λ none _. absurd (unless_some (duplicate_fault cs) f e none)),
      sym (linked_is None ∙ ap (λ a. after_all a supertypes (unless (cycle_fault cs None)) references tests) e),
    ),
  ))

  pub supertypes_said : (f : LinkFault) → names ≡ Ok tt → Fails f supertypes → Links cs lines (Err f)
  supertypes_said f n h = said cs lines f supertypes h (λ e. (
    None,
    (
      (λ _ none. absurd (unless_some (first_some (supertypes_fault (setting cs)) cs) f (ap (λ (z : LinkEnvironment). unless (first_some (supertypes_fault z) cs)) (sym is) ∙ e) none)),
      sym (linked_is None ∙ (λ i. after_all (n i) (e i) (unless (cycle_fault cs None)) references tests)),
    ),
  ))

  abbrev erred : LinkFault → Result Program LinkFault
  erred f = Err f

  cycle_known : (f : LinkFault) → names ≡ Ok tt → supertypes ≡ Ok tt → IsCycleFault cs f → (cycle : Option ℕ) × LinksBy cycle cs lines (Err f)
  cycle_known f n h (i, first, at) = (Some i, ((λ _ _. first), sym (linked_is (Some i) ∙ (λ j. after_all (n j) (h j) (unless (cycle_fault cs (Some i))) references tests) ∙ ap erred (sym at))))

  pub cycles_said : (f : LinkFault) → names ≡ Ok tt → supertypes ≡ Ok tt → (f ≡ fault.NoMemory) ⊎ IsCycleFault cs f → Links cs lines (Err f)
  cycles_said f n h (inl none) = subst (λ g. Links cs lines (Err g)) (sym none) tt
  cycles_said f n h (inr at) = let k = cycle_known f n h at in said cs lines f (failed f) (itself f) (λ _. k)

  pub references_said : (f : LinkFault) → names ≡ Ok tt → supertypes ≡ Ok tt → IsFirstCycle (skeleton cs) None → Fails f references → Links cs lines (Err f)
  references_said f n h first r = said cs lines f references r (λ e. (
    None,
    (
      (λ _ _. first),
      sym (linked_is None ∙ (λ i. after_all (n i) (h i) (Ok tt) (e i) tests)),
    ),
  ))

  module _ (n : names ≡ Ok tt) (h : supertypes ≡ Ok tt) (first : IsFirstCycle (skeleton cs) None) (r : references ≡ Ok tt) (xs : List TestLine) (same : xs ≡ lines.tests) where
    pub tests_said : (f : LinkFault) → Fails f (tests_of s lines.budget [] xs) → Links cs lines (Err f)
    tests_said f t = said cs lines f tests (subst (λ ys. Fails f (tests_of s lines.budget [] ys)) same t) (λ e. (
      None,
      (
        (λ _ _. first),
        sym (linked_is None ∙ (λ i. after_all (n i) (h i) (Ok tt) (r i) (e i))),
      ),
    ))

    pub program_said : (p : Program) (ts : List TestEntry) → p ≡ program_of cs ts lines.files → tests_of s lines.budget [] xs ≡ Ok ts → Links cs lines (Ok p)
    program_said p ts made t =
        let told : tests ≡ Ok ts = ap (tests_of s lines.budget []) (sym same) ∙ t in
        (None, ((λ _ _. first), (λ i. Ok (made i)) ∙ sym (linked_is None ∙ (λ i. after_all (n i) (h i) (Ok tt) (r i) (told i)))))
