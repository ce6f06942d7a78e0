-- What the deques of workers are filled with (this project's).
use Rattle.std.specs.Prelude.{ℕ, List, map}
use Rattle.chain_deque.specs.declared.rule.Chain.{Chain}

-- the chains of these numbers, in order
abbrev pub chains_of : List ℕ → List Chain
chains_of = map (λ number. record { number = number })
