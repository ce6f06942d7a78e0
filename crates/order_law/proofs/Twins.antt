-- Two programs whose names and code match and a one-to-one relation of places, as the lemmas of the rows take them.
use Rattle.std.proofs.Common.{ℕ}
use Rattle.jvm_model.specs.declared.program.Program.{Program}
use Rattle.order_law.specs.{Pairing.OneToOne, Numbers.Numbers, Matched.MatchedCode}

pub record Twins : Type 1 where
  pub numbers : Numbers
  pub place : ℕ → ℕ → Type 0
  pub one : OneToOne place
  pub left : Program
  pub right : Program
  pub matched : MatchedCode numbers left right
