-- Which of two options is there.
use Rattle.std.proofs.Common.{◌≡◌, ◌⊎◌, ℕ, Option, Some, None, inl, inr}
use Rattle.jvm_model.specs.Lookup.{or_else}

pub or_else_cases : (a b : Option ℕ) (n : ℕ) → or_else a b ≡ Some n → (a ≡ Some n) ⊎ (b ≡ Some n)
or_else_cases None b n e = inr e
or_else_cases (Some x) b n e = inl e
