-- How code sees a program of accesses: units that are left count down, touches are added to a list, and each access asks
-- that its location is there. The lemmas of proofs/Bridges say that this is the run of Access.
use Rattle.std.specs.Prelude.{◌≡◌, ℕ, List, [], ◌∷◌, ◌++◌, length, map, ◌-◌, ◌<◌, Bool, true, false, not, nat_le, is_some, if◌then◌else◌}
use Rattle.jvm_model.specs.declared.{values.Value.Value, values.Touch.Touch, values.Location.Location, outcome.Next.Next, program.Program.Program}
use Rattle.jvm_model.specs.declared.values.Location.TheVariants as place
use Rattle.jvm_model.specs.declared.outcome.Next.TheVariants.{Go, Fault, Raise, Enter, Leave, Over}
use Rattle.jvm_model.specs.World.{World, at, put, size, object_at, make_object}
use Rattle.jvm_model.specs.Access.{Access, done, read, write, make, spend, read_of, write_of, made}
use Rattle.jvm_model.specs.{Classes.method_at, Classes.member, Rows.Answer, Rows.answer, Rows.stuck_row}
use Rattle.jvm_model.specs.State.{Turn, next, ended as over_with, stuck_turn}

-- How a program of accesses ends under a number of units.
pub data Counted (A : Type 0) : Type 0 where
  -- a cost is above what is left
  over : Counted A
  -- an answer, the world then and the units that are left
  ended : A → World → ℕ → Counted A

abbrev pub counted : {A : Type 0} → Access A → World → ℕ → Counted A
counted (done a) w left = ended a w left
counted (read l k) w left = counted (k (at w l)) w left
counted (write l c rest) w left = counted rest (put w l c) left
counted (make x k) w left = counted (k (size w)) (make_object w x) left
counted (spend n rest) w left = if nat_le n left then counted rest w (left - n) else over

-- what a counted program goes on with
abbrev pub and_then : {A B : Type 0} → Counted A → (A → Access B) → Counted B
and_then over k = over
and_then (ended a w left) k = counted (k a) w left

-- the touches, added to those before
abbrev pub touched : {A : Type 0} → Access A → World → List Touch → List Touch
touched (done a) w ts = ts
touched (read l k) w ts = touched (k (at w l)) w (ts ++ (read_of l (at w l) ∷ []))
touched (write l c rest) w ts = touched rest (put w l c) (ts ++ (write_of l ∷ []))
touched (make x k) w ts = touched (k (size w)) (make_object w x) (ts ++ made (size w) x)
touched (spend n rest) w ts = touched rest w ts

abbrev pub keys : List (ℕ × Value) → List ℕ
keys xs = map (λ x. x.0) xs

-- the location is there, within its list
abbrev pub Exists : World → Location → Type 0
Exists w (place.Static f) = f < length w.statics
Exists w (place.Init c) = c < length w.states
Exists w (place.Head o) = o < size w
Exists w (place.Field o f) = (o < size w) × (member f (keys (object_at w o).fields) ≡ true)
Exists w (place.Elem o i) = (o < size w) × (i < length (object_at w o).elems)
Exists w (place.Text o) = o < size w
Exists w (place.File n) = Unit {0}
Exists w (place.Prop n) = Unit {0}

-- each location that is met is there, and the answer is good
abbrev pub IsSafe : {A : Type 0} → (A → Type 0) → Access A → World → Type 0
IsSafe G (done a) w = G a
IsSafe G (read l k) w = Exists w l × IsSafe G (k (at w l)) w
IsSafe G (write l c rest) w = Exists w l × IsSafe G rest (put w l c)
IsSafe G (make x k) w = IsSafe G (k (size w)) (make_object w x)
IsSafe G (spend n rest) w = IsSafe G rest w

-- the good answers: every one; of a row, that there is one; of a step likewise
abbrev pub Any : {A : Type 0} → A → Type 0
Any a = Unit {0}

abbrev pub IsRow : {S : Type 0} → Answer S → Type 0
IsRow (answer x s) = Unit {0}
IsRow stuck_row = ⊥

abbrev pub IsTurn : Turn → Type 0
IsTurn (next s) = Unit {0}
IsTurn (over_with v o) = Unit {0}
IsTurn stuck_turn = ⊥

-- Whether a call that answers this has counted the 1 of the step: not where the step throws by itself, which is counted
-- with the throwable, and not where a built-in method is still to run.
abbrev pub counts_one : Program → Next → Bool
counts_one p Go = true
counts_one p (Fault c) = false
counts_one p (Raise v) = true
counts_one p (Enter m) = not (is_some (method_at p m).native)
counts_one p Leave = true
counts_one p Over = true

-- a row with the 1 of its step, or without
abbrev pub paid : {A : Type 0} → Bool → Access A → Access A
paid true t = spend 1 t
paid false t = t

-- how a row ended, where the code answered this and left these
abbrev pub outcome : {S : Type 0} → Next → S → World → ℕ → Counted (Answer S)
outcome Over s w left = over
outcome Go s w left = ended (answer Go s) w left
outcome (Fault c) s w left = ended (answer (Fault c) s) w left
outcome (Raise v) s w left = ended (answer (Raise v) s) w left
outcome (Enter m) s w left = ended (answer (Enter m) s) w left
outcome Leave s w left = ended (answer Leave s) w left
