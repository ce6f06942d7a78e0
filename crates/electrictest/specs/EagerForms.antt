-- What an eager form is worth, beside the suite as it is (this project's).
use Rattle.std.specs.Prelude.{◌≡◌, true, None, Ok}
use Rattle.jvm_model.specs.Suite.{is_detected}
use Rattle.outside.specs.Depot.{Files}
use Rattle.suite_load.specs.declared.loaded.Loaded.{Loaded}
use Rattle.quiet_law.specs.QuietLaw.{NeverOverflows, AllNoDearer}
use Rattle.electrictest.specs.{EarlierRecords.HoldBytes, Loads.LoadsFor, Loads.LoadsNamed, Loads.quieted}
use Rattle.electrictest.specs.Words.{Ask, is_eager, refusal_of, word_at}

-- The words ask for an eager form over this suite, whose own run, as it is, ends within its limits; and no step of that run throws
-- a StackOverflowError by itself.
pub record AsksEager (files : Files) (a : Ask) (l : Loaded) : Type 0 where
  pub asks : refusal_of a.command ≡ None
  pub eager : is_eager a.words ≡ true
  pub load : LoadsNamed files (word_at a.words 1) (Ok l)
  pub bytes : HoldBytes files
  pub detected : is_detected l.checked ≡ true
  pub room : NeverOverflows l.checked

-- What is answered is said of the suite without its quiet initialisers. Its own run ends within its limits too, and there each
-- test has the verdict and the output that it has in the run of the suite as it is, and no more units.
abbrev pub EagerAnswer : Files → Ask → Type 0
EagerAnswer files a = (l : Loaded) → AsksEager files a l → LoadsFor files a (Ok (quieted l)) × AllNoDearer l.checked
