-- The frame law for two programs and a matching of their numbers.
use Rattle.std.specs.Prelude.{◌≡◌, ◌⊎◌, ℕ, ◌+◌, ◌<◌, ◌≤◌, Bool, true, Some}
use Rattle.jvm_model.specs.{declared.values.Location.Location, declared.program.Program.Program, World.World, World.size, World.at, State.test_at}
use Rattle.jvm_model.specs.Suite.{Given, one_test}
use Rattle.order_law.specs.{Exposed.written, Frame.Agree, Matched.Matched, Matched.PairedTest, Outcomes.PairedOutcome}
use Rattle.order_law.specs.Pairing.{Matching, OneToOne, PairedList, PairedLocation, PairedContent, PairedTouch}
use Rattle.order_law.specs.Numbers.{Numbers, Tested, with_places}

-- a pairing of the objects of two worlds
pub record PairsObjects (π : ℕ → ℕ → Bool) (w v : World) : Type 0 where
  pub one : OneToOne (Tested π)
  pub left : (a b : ℕ) → π a b ≡ true → a < size w
  pub right : (a b : ℕ) → π a b ≡ true → b < size v

-- These, and the objects that the two runs make, in the order of making; the first run ends with `end` objects.
abbrev pub AlsoMade : (ℕ → ℕ → Bool) → World → World → ℕ → ℕ → ℕ → Type 0
AlsoMade π w v end a b = (π a b ≡ true) ⊎ ((size w ≤ a) × (a < end) × (a + size v ≡ b + size w))

-- Test u, which begins in the world v, gives something too. Its outcome is the same but for the number of a throwable's
-- class, its touches are paired, it makes as many objects, and it leaves paired contents where it wrote and where they were
-- paired before.
pub record SameTest (n : Numbers) (m : Matching) (q : Program) (w v : World) (u b : ℕ) (x : Given) : Type 0 where
  pub given : Given
  pub is : one_test q v u b ≡ Some given
  pub outcome : PairedOutcome n x.outcome given.outcome
  pub touches : PairedList (PairedTouch m) x.touches given.touches
  pub sizes : size x.world + size v ≡ size given.world + size w
  pub worlds : (L M : Location) → PairedLocation m L M → ((written x.touches L ≡ true) ⊎ PairedContent m L M (at w L) (at v M)) → PairedContent m L M (at x.world L) (at given.world M)

-- Where a test gives something in one world, and the other world holds paired contents at all that it is exposed to, the
-- paired test does the same there, under every budget.
abbrev pub FrameLaw : Type 0
FrameLaw = (p q : Program) (n : Numbers) (t u b : ℕ) (w v : World) (π : ℕ → ℕ → Bool) → Matched n p q → PairedTest n (test_at p t) (test_at q u) → PairsObjects π w v →
    (x : Given) → one_test p w t b ≡ Some x → Agree (with_places n (Tested π)) x.touches w v →
    SameTest n (with_places n (AlsoMade π w v (size x.world))) q w v u b x
