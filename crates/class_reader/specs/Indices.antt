-- Indices into the pool, with what they must name: how they are read, and their grammar.
use Rattle.std.specs.Prelude.{ℕ, ◌^◌, List, length, Option, Result, Ok, Bool}
use Rattle.std.specs.Int.{w16}
use Rattle.class_pool.specs.declared.{fault.Fault.Fault, fault.Fault.TheVariants.BadIndex, fault.Fault.TheVariants.BadDescriptor, pool.Entry.Entry}
use Rattle.et_base.specs.Answers.{◌>>=◌, tested}
use Rattle.class_pool.specs.{Reading.number_at, Pool.entry_of, Pool.is_text, Grammar.Nothing, Grammar.Then, Grammar.Tested, Grammar.Number}

-- an index that names an entry of this kind
unfoldable pub index_at : (Option Entry → Bool) → List (Option Entry) → List ℕ → Result (ℕ × List ℕ) Fault
index_at fits slots bytes = do
  index ← number_at w16 bytes
  right ← tested (fits (entry_of slots index.0)) (BadIndex (length bytes))
  Ok index

-- an index that names a text in this form
unfoldable pub form_at : (Option Entry → Bool) → List (Option Entry) → List ℕ → Result (ℕ × List ℕ) Fault
form_at form slots bytes = do
  index ← index_at is_text slots bytes
  right ← tested (form (entry_of slots index.0)) (BadDescriptor (length bytes))
  Ok index

-- ---- the grammar

abbrev pub Short : List ℕ → ℕ → Type 0
Short = Number w16 (2 ^ 16)

-- an index that names an entry of this kind
abbrev pub Index : (Option Entry → Bool) → List (Option Entry) → List ℕ → ℕ → Type 0
Index fits slots = Then Short (λ i. Tested (fits (entry_of slots i)) (Nothing i))

-- an index that names a text in this form
abbrev pub Form : (Option Entry → Bool) → List (Option Entry) → List ℕ → ℕ → Type 0
Form form slots = Then (Index is_text slots) (λ i. Tested (form (entry_of slots i)) (Nothing i))
