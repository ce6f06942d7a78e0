-- What a part of loading answered of what a definition says.
use Rattle.std.specs.Prelude.{◌≢◌, ℕ, List, Option, Some, None, Result, Ok, Err, IfSome}
use Rattle.et_base.specs.Answers.{Gives}
use Rattle.outside.specs.{declared.depot.DepotRefusal.DepotRefusal, Depot.Files}
use Rattle.outside.specs.declared.depot.DepotRefusal.TheVariants as refused
use Rattle.class_reader.specs.declared.fault.ClassFault.TheVariants as class
use Rattle.class_reader.specs.declared.parts.ClassParts.{ClassParts}
use Rattle.class_link.specs.declared.fault.LinkFault.TheVariants as linking
use Rattle.jvm_model.specs.declared.program.Program.{Program}
use Rattle.order_law.specs.declared.records.Prints.{Prints}
use Rattle.type_frames.specs.declared.fault.CheckFault.{CheckFault}
use Rattle.type_frames.specs.declared.fault.CheckFault.TheVariants as checking
use Rattle.suite_load.specs.declared.{suite_text.SuiteText.SuiteText, load_fault.LoadFault.LoadFault, loaded.Loaded.Loaded}
use Rattle.suite_load.specs.declared.load_fault.LoadFault.TheVariants as fault
use Rattle.suite_load.specs.Loading.{ReadGives, Loads, loaded_of}

-- the fault that a definition knows of; a failing depot's and want of memory are free
abbrev pub says : LoadFault → Option LoadFault
says fault.NoMemory = None
says (fault.Depot name) = None
says (fault.Absent name) = Some (fault.Absent name)
says (fault.TooLarge name) = Some (fault.TooLarge name)
says (fault.Suite line why) = Some (fault.Suite line why)
says (fault.Class name f) = Some (fault.Class name f)
says (fault.Link f) = Some (fault.Link f)
says (fault.Check f) = Some (fault.Check f)

-- the answer is the definition's
abbrev pub Answers : {A : Type 0} → Result A LoadFault → Result A LoadFault → Type 0
Answers result given = Gives says (λ x. x) result given

-- the relation R says this answer
abbrev pub Says : {A : Type 0} → (Result A LoadFault → Type 0) → Result A LoadFault → Type 0
Says R (Ok x) = R (Ok x)
Says R (Err e) = IfSome (says e) (λ f. R (Err f))

-- Of a failing depot P holds at the file that is named; want of memory is no fault of a class
-- file, of linking or of the check, and a line that names no test is none of linking.
abbrev pub IsProper : (List ℕ → Type 0) → LoadFault → Type 0
IsProper P fault.NoMemory = Unit {0}
IsProper P (fault.Depot name) = P name
IsProper P (fault.Absent name) = Unit {0}
IsProper P (fault.TooLarge name) = Unit {0}
IsProper P (fault.Suite line why) = Unit {0}
IsProper P (fault.Class name f) = f ≢ class.NoMemory
IsProper P (fault.Link f) = (f ≢ linking.NoMemory) × ((t : ℕ) → f ≢ linking.NotATest t)
IsProper P (fault.Check f) = f ≢ checking.NoMemory

-- how a refusal of the depot at the file of a name is answered
abbrev pub refusal_of : DepotRefusal → List ℕ → LoadFault
refusal_of refused.Absent name = fault.Absent name
refusal_of refused.TooLong name = fault.TooLarge name
refusal_of refused.Failed name = fault.Depot name
refusal_of refused.NoMemory name = fault.NoMemory

-- how a fault of the check is answered
abbrev pub check_answer : CheckFault → LoadFault
check_answer checking.NoMemory = fault.NoMemory
check_answer f = fault.Check f

-- loading the suite of this name answers this
abbrev pub LoadAnswers : Files → List ℕ → Result Loaded LoadFault → Type 0
LoadAnswers files name result = Says (Loads files name) result

-- linking and the check of these class files answer this, whatever the sums are
abbrev pub Checks : SuiteText → List ClassParts → Result Program LoadFault → Type 0
Checks suite cs (Ok p) = (sums : SuiteText → Prints) → ReadGives sums (Ok (suite, cs)) (Ok (loaded_of suite (sums suite) p))
Checks suite cs (Err e) = (sums : SuiteText → Prints) → IfSome (says e) (λ f. ReadGives sums (Ok (suite, cs)) (Err f))
