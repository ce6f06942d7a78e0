-- The state of a test beside the world, and what a step makes of it.
use Rattle.std.specs.Prelude.{ℕ, List, [], get_or, ◌-◌, Option, Some, None, pos}
use Rattle.jvm_model.specs.declared.{values.Value.Value, outcome.Own.Own, outcome.Verdict.Verdict, state.EntryKind.EntryKind}
use Rattle.jvm_model.specs.declared.state.{EntryKind.TheVariants.Absent, EntryKind.TheVariants.InMethod, EntryKind.TheVariants.InClass, Stage.Stage}
use Rattle.jvm_model.specs.{declared.program.Program.Program, declared.program.TestEntry.TestEntry, Entries.Entries, Entries.no_entries}
use Rattle.jvm_model.specs.declared.state.Stage.TheVariants.{First, Made, Built, SetUp, Called, Last}

-- All of a test's state but the world; its units are counted by the run.
pub record State : Type 0 where
  -- the number of the test, from 1
  pub test : ℕ
  pub entries : Entries
  pub stage : Stage
  -- the throwable that is being raised
  pub raised : Option Value
  pub own : Own

-- What a step makes: the next state, the end of the test with its verdict and output, or nothing, as there is no row.
pub data Turn : Type 0 where
  next : State → Turn
  ended : Verdict → List ℕ → Turn
  stuck_turn : Turn

abbrev pub no_test : TestEntry
no_test = record { class = 0; method = 0; clock = pos 0; seed = 0; budget = 0 }

-- the test n, numbered from 1
abbrev pub test_at : Program → ℕ → TestEntry
test_at p n = get_or p.tests (n - 1) no_test

-- the start state of a test
abbrev pub started : Program → ℕ → State
started p n = record {
  test = n;
  entries = no_entries;
  stage = First;
  raised = None;
  own = record { output = []; clock = (test_at p n).clock; random = (test_at p n).seed };
}

-- the first throwable decides
abbrev pub or_first : Option Value → Value → Option Value
or_first None v = Some v
or_first (Some u) v = Some u

-- where a throwable comes out of what a stage called or made
abbrev pub thrown_at : Stage → Value → Stage
thrown_at First v = Last (Some v)
thrown_at (Made o) v = Last (Some v)
thrown_at (Built o) v = Last (Some v)
thrown_at (SetUp o) v = Last (Some v)
thrown_at (Called o u) v = Called o (or_first u v)
thrown_at (Last u) v = Last (or_first u v)

-- a throwable is raised into the top entry, or comes to the driver where none is left
abbrev pub raised_in : EntryKind → Value → State → State
raised_in Absent v s = record s { raised = None; stage = thrown_at s.stage v }
raised_in InMethod v s = record s { raised = Some v }
raised_in (InClass b) v s = record s { raised = Some v }

abbrev pub raise : Value → State → State
raise v s = raised_in s.entries.top.kind v s

-- the state with these entries, and nothing raised
abbrev pub with_entries : State → Entries → State
with_entries s t = record s { entries = t; raised = None }
