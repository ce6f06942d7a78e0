-- Reading with the first fault.
use Rattle.std.specs.Prelude.{◌≡◌, Option, Some, None, Result}
use Rattle.et_base.specs.Answers as answers
pub use Rattle.et_base.specs.Answers.{◌>>=◌, tested, nothing}
use Rattle.suite_load.specs.declared.suite_text.{SuiteRefusal.SuiteRefusal, SuiteRefusal.TheVariants.Suite, SuiteRefusal.TheVariants.NoMemory}

-- the fault that a refusal names
abbrev pub says : SuiteRefusal → Option SuiteRefusal
says NoMemory = None
says (Suite line why) = Some (Suite line why)

-- What a function returned, seen by view, is what reading gives, unless memory ran out.
abbrev pub Fails : {Y : Type 0} → SuiteRefusal → Result Y SuiteRefusal → Type 0
Fails refusal read = answers.Fails (says refusal) read

abbrev pub Gives : {X Y : Type 0} → (X → Y) → Result X SuiteRefusal → Result Y SuiteRefusal → Type 0
Gives view result read = answers.Gives says view result read

-- the refusal is this fault, unless memory ran out
abbrev pub Names : SuiteRefusal → SuiteRefusal → Type 0
Names NoMemory fault = Unit {0}
Names (Suite line why) fault = fault ≡ Suite line why

abbrev pub same : {X : Type 0} → X → X
same x = x
