-- Linking: the program of class files and tests, or the first fault (JVMS 5.3 and 5.4.3; the order of faults is this project's).
use Rattle.std.specs.Prelude.{◌≡◌, ℕ, zero, suc, ◌+◌, ◌<◌, ◌≤◌, List, [], ◌∷◌, ◌++◌, length, get_or, Option, Some, None, Result, Ok, Err, Bool, true, ◌&&◌, ◌||◌, nat_eq}
use Rattle.std.specs.List.{list_all}
use Rattle.et_base.specs.Answers.{◌>>=◌}
use Rattle.class_reader.specs.declared.parts.ClassParts.{ClassParts}
use Rattle.jvm_model.specs.{declared.program.Program.Program, declared.program.TestEntry.TestEntry, Builtin.builtin_count, Linked.is_word, Suite.suite_limit}
use Rattle.class_link.specs.declared.{fault.LinkFault.LinkFault, lines.TestLine.TestLine, lines.TestLines.TestLines}
use Rattle.class_link.specs.declared.fault.LinkFault.TheVariants as fault
use Rattle.class_link.specs.{ClassNames.own_name, ClassNames.all_names, Literals.literals, Assembly.assembled, Assembly.skeleton, References.LinkEnvironment}
use Rattle.class_link.specs.Bodies.{linked_body}
use Rattle.class_link.specs.Faults.{first_some, duplicate_fault, supertypes_fault, all_references_fault, test_entry}
use Rattle.member_lookup.specs.Ancestors.{IsFirstCycle}

-- what references are resolved with
abbrev pub setting : List ClassParts → LinkEnvironment
setting cs = record { program = skeleton cs; names = all_names cs; texts = literals cs }

-- the answer is the fault, where there is one
abbrev pub unless : Option LinkFault → Result (Unit {0}) LinkFault
unless None = Ok tt
unless (Some f) = Err f

-- the name of the class file at a place
abbrev pub name_of : List ClassParts → ℕ → List ℕ
name_of [] i = []
name_of (c ∷ cs) zero = own_name c
name_of (c ∷ cs) (suc i) = name_of cs i

abbrev pub cycle_fault : List ClassParts → Option ℕ → Option LinkFault
cycle_fault cs None = None
cycle_fault cs (Some i) = Some (fault.Cycle (name_of cs i))

-- the tests of the lines behind those of front; a line that is none is named by its number from 1
abbrev pub tests_of : LinkEnvironment → ℕ → List TestEntry → List TestLine → Result (List TestEntry) LinkFault
tests_of s budget front [] = Ok front
tests_of s budget front (x ∷ xs) = elim (test_entry s budget x) [ None ↦ Err (fault.NotATest (length front + 1)) | Some t ↦ tests_of s budget (front ++ t ∷ []) xs ]

-- the program with its references resolved
abbrev pub program_of : List ClassParts → List TestEntry → List (List ℕ × List ℕ) → Program
program_of cs tests files = assembled (λ c code. linked_body (setting cs) c.pool code) cs tests files

-- The linking of class files, where cycle is the first class that is its own ancestor: the faults in their order, and the program.
unfoldable pub link_by : Option ℕ → List ClassParts → TestLines → Result Program LinkFault
link_by cycle cs lines = do
  different ← unless (duplicate_fault cs)
  headed ← unless (first_some (supertypes_fault (setting cs)) cs)
  acyclic ← unless (cycle_fault cs cycle)
  resolved ← unless (all_references_fault (setting cs) builtin_count cs)
  tests ← tests_of (setting cs) lines.budget [] lines.tests
  Ok (program_of cs tests lines.files)

-- the answer is that of linking, where cycle is the first class that is its own ancestor; it isn't looked for where names
-- don't differ, or superclasses and superinterfaces are at fault
abbrev pub LinksBy : Option ℕ → List ClassParts → TestLines → Result Program LinkFault → Type 0
LinksBy cycle cs lines answer = (duplicate_fault cs ≡ None → first_some (supertypes_fault (setting cs)) cs ≡ None → IsFirstCycle (skeleton cs) cycle) × (answer ≡ link_by cycle cs lines)

-- What linking says of its answer; want of memory says nothing.
abbrev pub Links : List ClassParts → TestLines → Result Program LinkFault → Type 0
Links cs lines (Err fault.NoMemory) = Unit {0}
Links cs lines answer = (cycle : Option ℕ) × LinksBy cycle cs lines answer

-- Linking has exactly one answer: there is one, and what linking says of an answer that isn't want of memory, it says of this one.
abbrev pub LinksOnce : Type 0
LinksOnce = (cs : List ClassParts) (lines : TestLines) → (answer : Result Program LinkFault) × (cycle : Option ℕ) × LinksBy cycle cs lines answer
    × ((other : Result Program LinkFault) → (other ≡ Err fault.NoMemory → ⊥) → Links cs lines other → other ≡ answer)

-- the fault names the first class file that is its own ancestor
abbrev pub IsCycleFault : List ClassParts → LinkFault → Type 0
IsCycleFault cs f = (i : ℕ) × IsFirstCycle (skeleton cs) (Some i) × (f ≡ fault.Cycle (name_of cs i))

-- ---- what linking asks for

abbrev pub AreDifferent : {A : Type 0} → List A → A → (A → List ℕ) → Type 0
AreDifferent xs d key = (i j : ℕ) → i < length xs → j < length xs → key (get_or xs i d) ≡ key (get_or xs j d) → i ≡ j

-- a test's class and method are words, the class's joined by slashes (this project's)
abbrev pub is_test_name : TestLine → Bool
is_test_name x = list_all is_word x.method && list_all (λ u. is_word u || nat_eq u 47) x.class

-- the lines of a suite text: few, in their forms and with names that differ
pub record AreLines (lines : TestLines) : Type 0 where
  pub few_tests : length lines.tests ≤ 1024
  pub few_files : length lines.files ≤ 1024
  pub names : list_all is_test_name lines.tests ≡ true
  pub files : AreDifferent lines.files ([], []) (λ x. x.0)
  pub budget : (0 < lines.budget) × (lines.budget ≤ suite_limit)
