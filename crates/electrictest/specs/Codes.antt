-- The exit status of each way in which a command ends (this project's).
use Rattle.std.specs.Prelude.{ℕ}
use Rattle.electrictest.specs.declared.status.Status.{Status}
use Rattle.electrictest.specs.declared.status.Status.TheVariants as ends

abbrev pub code_of : Status → ℕ
code_of ends.Done = 0
code_of ends.NotPassed = 1
code_of ends.Words = 2
code_of (ends.Input fault) = 3
code_of ends.NoMemory = 4
code_of (ends.Depot name) = 5
code_of ends.Sink = 6
code_of (ends.Over fault) = 7
