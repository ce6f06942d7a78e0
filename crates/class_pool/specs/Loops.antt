-- Items one after the other: as many as a count says, or until a run of bytes has ended.
use Rattle.std.specs.Prelude.{ℕ, zero, suc, List, [], ◌∷◌, ◌++◌, Result, Ok}
use Rattle.class_pool.specs.declared.fault.Fault.{Fault}
use Rattle.et_base.specs.Answers.{◌>>=◌}

-- n more items behind those of front. What one is may depend on those before it and on how many follow.
unfoldable pub counted : {A : Type 0} → (List A → ℕ → List ℕ → Result (A × List ℕ) Fault) → List A → ℕ → List ℕ → Result (List A × List ℕ) Fault
counted step front zero bytes = Ok (front, bytes)
counted step front (suc n) bytes = step front n bytes >>= λ x. counted step (front ++ x.0 ∷ []) n x.1

-- items behind those of front to the end of the bytes, of which there are at most n
unfoldable pub to_end : {A : Type 0} → (List A → List ℕ → Result (A × List ℕ) Fault) → List A → ℕ → List ℕ → Result (List A) Fault
to_end step front n [] = Ok front
to_end step front zero (b ∷ bytes) = Ok front
to_end step front (suc n) (b ∷ bytes) = step front (b ∷ bytes) >>= λ x. to_end step (front ++ x.0 ∷ []) n x.1

-- what a state becomes by n steps
unfoldable pub folded : {S : Type 0} → (S → List ℕ → Result (S × List ℕ) Fault) → S → ℕ → List ℕ → Result (S × List ℕ) Fault
folded step s zero bytes = Ok (s, bytes)
folded step s (suc n) bytes = step s bytes >>= λ x. folded step x.0 n x.1
