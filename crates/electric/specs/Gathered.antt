-- A sink behind gathered bytes (this project's).
use Rattle.std.specs.Prelude.{◌≡◌, ℕ, ◌≤◌, List, length, take}
use Rattle.outside.specs.Sink.{SinkView, appended, lowered, HasRoom}

-- what contracts see of it: the sink, and the bytes that are still to be handed on to it
pub record Gathering (S : Type 0) : Type 0 where
  pub sink : S
  pub bytes : List ℕ

-- It shows the sink as if that had taken the gathered bytes.
abbrev pub seen : {S : Type 0} → (S → SinkView) → Gathering S → SinkView
seen shown g = record { told = appended (shown g.sink).told g.bytes; room = lowered (shown g.sink).room (length g.bytes); faults = (shown g.sink).faults }

-- Of gathered bytes some were handed on, and these are left: it shows the same, but for faults. Where the sink's room holds the
-- bytes, it then holds those that are left, and the count of faults stays.
pub record HandedOn (old new : SinkView) (bytes left : List ℕ) : Type 0 where
  pub told : appended new.told left ≡ appended old.told bytes
  pub room : lowered new.room (length left) ≡ lowered old.room (length bytes)
  pub later : old.faults ≤ new.faults
  pub fits : HasRoom old.room (length bytes) → HasRoom new.room (length left)
  pub quiet : HasRoom old.room (length bytes) → new.faults ≡ old.faults

-- n bytes of a piece were taken, and where a told room holds the piece, the count of faults stays.
pub record TookFront (old new : SinkView) (piece : List ℕ) (n : ℕ) : Type 0 where
  pub told : new.told ≡ appended old.told (take n piece)
  pub room : new.room ≡ lowered old.room n
  pub later : old.faults ≤ new.faults
  pub quiet : HasRoom old.room (length piece) → new.faults ≡ old.faults
