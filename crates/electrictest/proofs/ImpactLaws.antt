-- An impact answers what is asked.
use Rattle.std.proofs.Common.{◌≡◌, ℕ, List, true, refl, arith, Option, Some, None, Ok, IfSome}
use Rattle.order_law.specs.declared.records.{More.More, Record.Record}
use Rattle.outside.specs.Depot.{Files, Told, OfHeld}
use Rattle.suite_load.specs.declared.loaded.Loaded.{Loaded}
use Rattle.impact_pick.specs.{Form.fits_prints, ImpactText.impact_text}
use Rattle.electrictest.specs.declared.words.Command.TheVariants as command
use Rattle.electrictest.specs.{Commands.Reported, Impacts.IsImpacted, Loads.Begins, Loads.LoadsFor, Loads.begun_by, Records.nameless, Words.Ask}
use Rattle.electrictest.proofs.AskedFor.{reports_as}

-- by what version 2 of the record adds, which is there
impact_of : (files : Files) (a : Ask) (l : Loaded) (r : Record) (more : Option More) (text : List ℕ) (steps : ℕ) → a.command ≡ Ok command.Impact → r.more ≡ more → fits_prints more l.prints ≡ true →
    IfSome more (λ m. text ≡ impact_text l.names m l.checked l.prints) → Begins files a l (Ok (nameless r)) → Reported files a true text steps steps
impact_of files a l r None text steps c e fits is begins = absurd (cc)
impact_of files a l r (Some m) text steps c e fits is begins =
    let report : IsImpacted files a true text 0 = record { loaded = l; beginning = nameless r; begins = begins; more = m; newer = e; reports = is; ends = refl; free = refl } in
    record { units = 0; report = reports_as (Ok command.Impact) files a true text 0 c report; counts = omega arith }

pub impact_reports : (told : Told) (a : Ask) (l : Loaded) (r : Record) (text : List ℕ) (steps : ℕ) → a.command ≡ Ok command.Impact → OfHeld told (λ files. begun_by files a l ≡ Some (Ok (nameless r))) →
    fits_prints r.more l.prints ≡ true → IfSome r.more (λ m. text ≡ impact_text l.names m l.checked l.prints) → OfHeld told (λ files. LoadsFor files a (Ok l) → Reported files a true text steps steps)
impact_reports told a l r text steps c g fits is = λ files may h. impact_of files a l r r.more text steps c refl fits is (record { load = h; begins = g files may })
