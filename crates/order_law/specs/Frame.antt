-- What the frame law says of two runs.
use Rattle.std.specs.Prelude.{◌≡◌, ◌⊎◌, ℕ, ◌+◌, ◌<◌, ◌≤◌, List, true}
use Rattle.jvm_model.specs.{declared.values.Location.Location, declared.values.Touch.Touch, World.World, World.size, World.at, Access.Ran}
use Rattle.order_law.specs.Exposed.{written, exposed}
use Rattle.order_law.specs.Pairing.{Matching, PairedList, PairedLocation, PairedContent, PairedTouch}

-- where a location is exposed in these touches, the two worlds hold paired contents
abbrev pub Agree : Matching → List Touch → World → World → Type 0
Agree m ts w v = (L M : Location) → PairedLocation m L M → exposed ts L ≡ true → PairedContent m L M (at w L) (at v M)

-- what is still made, up to `end`, is paired in the order of making
abbrev pub MadePaired : Matching → ℕ → ℕ → ℕ → Type 0
MadePaired m from from' end = (i j : ℕ) → from ≤ i → i < end → i + from' ≡ j + from → m.place i j

-- of two paired objects the second is there where the first is
abbrev pub Forward : Matching → World → World → Type 0
Forward m w v = (a b : ℕ) → m.place a b → a < size w → b < size v

-- Two runs, from the worlds w and v, that did the same.
pub record Alike (m : Matching) {A B : Type 0} (R : A → B → Type 0) (w v : World) (r : Ran A) (s : Ran B) : Type 0 where
  pub sound : s.sound ≡ true
  pub value : R r.value s.value
  pub touches : PairedList (PairedTouch m) r.touches s.touches
  pub units : r.units ≡ s.units
  pub sizes : size r.world + size v ≡ size s.world + size w
  pub worlds : (L M : Location) → PairedLocation m L M → ((written r.touches L ≡ true) ⊎ PairedContent m L M (at w L) (at v M)) → PairedContent m L M (at r.world L) (at s.world M)
