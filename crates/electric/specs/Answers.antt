-- What the program answers to the words of its command line (this project's).
use Rattle.std.specs.Prelude.{ℕ, List, [], ◌∷◌, codes, Option, Some, None, if◌then◌else◌}
use Rattle.std.specs.Str.{bytes_eq}
use Rattle.outside.specs.{Depot.DepotView, Depot.OfHeld, Sink.SinkView}
use Rattle.electrictest.specs.{declared.status.Status.Status, Commands.Taken, Commands.Ends, Commands.Served, Commands.called, Words.threaded}
use Rattle.electric.specs.declared.TheConstants.{HELP, VERSION}

-- the text of a word that is answered by itself alone
abbrev pub word_text : List ℕ → Option (List ℕ)
word_text word = if bytes_eq word (codes "--help") then Some HELP.now else (if bytes_eq word (codes "--version") then Some VERSION.now else None)

-- the text of such a word, where it stands alone
abbrev pub words_text : List (List ℕ) → Option (List ℕ)
words_text (word ∷ []) = word_text word
words_text _ = None

-- The words, as they came, are answered over this depot, on a count of steps that began at 0.
pub record Answers (words : List (List ℕ)) (s : Status) (depot depot_now : DepotView) (old new : SinkView) : Type 0 where
  pub steps : ℕ
  pub served : OfHeld depot_now.told (λ files. Served (called (threaded words) depot depot_now 0 steps files) s old new)
  pub taken : Taken s old new
  pub ends : Ends (threaded words) s depot depot_now old new
