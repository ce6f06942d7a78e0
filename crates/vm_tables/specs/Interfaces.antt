-- Superinterfaces that were noted, and default interfaces.
use Rattle.std.specs.Prelude.{◌≡◌, ℕ, List, [], get_or, true, nat_eq}
use Rattle.indexmap.specs.IndexSet.{insert_all}
use Rattle.jvm_model.specs.{declared.program.Program.Program, Classes.class_bound, Classes.member, Classes.lineage_in, Classes.default_interfaces}

-- an interface behind those above it
abbrev pub lineage : Program → ℕ → List ℕ
lineage p i = lineage_in p class_bound i

-- with each interface those above it are noted
abbrev pub IsClosed : Program → List ℕ → Type 0
IsClosed p noted = (d e : ℕ) → member d noted ≡ true → member e (lineage p d) ≡ true → member e noted ≡ true

-- these were noted behind those that had been noted before, each once
pub record Gathers (p : Program) (xs old new : List ℕ) : Type 0 where
  pub noted : new ≡ insert_all nat_eq old xs
  pub closed : IsClosed p new

-- the table of each class's default interfaces
abbrev pub AreDefaults : Program → List (List ℕ) → Type 0
AreDefaults p table = (c : ℕ) → get_or table c [] ≡ default_interfaces p c
