-- Texts by names, and what was changed of them.
use Rattle.std.specs.Prelude.{◌≡◌, ℕ, List, [], ◌∷◌, Bool, false}
use Rattle.std.specs.{List.list_any, Str.bytes_eq}
use Rattle.jvm_model.specs.World.{keep}
use Rattle.sim_store.specs.Stored.{Stored, Named}

-- the texts with these changes, one after the other
abbrev pub changed_by : List Named → List Named → List Named
changed_by xs [] = xs
changed_by xs (e ∷ es) = changed_by (keep bytes_eq xs e.0 e.1) es

-- the name is among these
abbrev pub is_named : List ℕ → List Named → Bool
is_named n es = list_any (λ e. bytes_eq n e.0) es

-- the names differ
abbrev pub AreApart : List Named → Type 0
AreApart [] = Unit {0}
AreApart (e ∷ es) = (is_named e.0 es ≡ false) × AreApart es

-- what a store was at first, and what it is
pub record Changing : Type 0 where
  pub opening : Stored
  pub now : Stored
