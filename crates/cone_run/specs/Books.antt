-- What a book of cones keeps: the pieces that were posted, and the sum of their units.
use Rattle.std.specs.Prelude.{◌≡◌, ℕ, ◌<◌, ◌≤◌, ◌^◌, List, length, get_or, sum_by, Bool, Option, Some, None}
use Rattle.jvm_model.specs.declared.program.Program.{Program}
use Rattle.order_law.specs.declared.edges.Edge.{Edge}
use Rattle.test_run.specs.Running.{Posted}
use Rattle.cone_run.specs.Cones.{IsConeOf, cone_units}

-- the units of all tests of a cone, where its piece was posted
abbrev pub posted_units : Program → Option Posted → ℕ
posted_units p None = 0
posted_units p (Some x) = cone_units p x.list

-- a piece of test t's cone, of no more units than 1,024 tests can have: each has at most 2^26
pub record IsPosted (p : Program) (R : List Edge) (t : ℕ) (x : Posted) : Type 0 where
  pub of : IsConeOf p R t x
  pub few : cone_units p x.list ≤ 2 ^ 36

-- what contracts see of a book
pub record Booked : Type 0 where
  pub claimed : List Bool
  pub pieces : List (Option Posted)
  pub units : ℕ

-- A piece stands at the place of its test among the selected ones, so none is posted twice.
pub record IsBook (p : Program) (R : List Edge) (sel : List ℕ) (claimed : List Bool) (pieces : List (Option Posted)) (units : ℕ) : Type 0 where
  pub few : length sel ≤ 1024
  pub claims : length claimed ≡ length sel
  pub places : length pieces ≡ length sel
  pub each : (i : ℕ) (x : Posted) → get_or pieces i None ≡ Some x → IsPosted p R (get_or sel i 0) x
  pub sum : units ≡ sum_by (posted_units p) pieces

-- the pieces from a place on, where those before were taken out
pub record AreLeft (p : Program) (R : List Edge) (sel : List ℕ) (place : ℕ) (pieces : List (Option Posted)) : Type 0 where
  pub places : length pieces ≡ length sel
  pub gone : (i : ℕ) → i < place → get_or pieces i None ≡ None
  pub each : (i : ℕ) (x : Posted) → get_or pieces i None ≡ Some x → IsPosted p R (get_or sel i 0) x
