-- What a store holds.
use Rattle.std.specs.Prelude.{ℕ, List, Option}
use Rattle.std.specs.declared.{vec.Vec.Vec, alloc.Global.Global}

-- a name, and the text at it if there is one
abbrev pub Named : Type 0
Named = List ℕ × Option (List ℕ)

abbrev pub named : Vec ℕ Global × Option (List ℕ) → Named
named e = (e.0.items, e.1)

-- the files and the properties
pub record Stored : Type 0 where
  pub files : List Named
  pub props : List Named
