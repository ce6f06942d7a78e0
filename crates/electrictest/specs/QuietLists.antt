-- The report on quiet classes (this project's).
use Rattle.std.specs.Prelude.{◌≡◌, ℕ, List, Bool, true}
use Rattle.outside.specs.Depot.{Files}
use Rattle.quiet_init.specs.QuietText.{quiet_text}
use Rattle.electrictest.specs.{Begun.OfLoaded, Words.Ask}

-- the text names the quiet classes of the suite that is loaded; no test is run
abbrev pub IsQuietList : Files → Ask → Bool → List ℕ → ℕ → Type 0
IsQuietList files a passed text units = OfLoaded (λ l. (text ≡ quiet_text l.checked) × (passed ≡ true) × (units ≡ 0)) files a
