-- Names of files and properties, and their numbers.
use Rattle.std.specs.Prelude.{◌≡◌, ◌<◌, ℕ, List, length, get_or, Option, None, Some}
use Rattle.std.specs.{Map.lookup, Str.bytes_eq}
use Rattle.std.specs.declared.vec.Vec.{Vec}
use Rattle.std.specs.declared.alloc.Global.{Global}
use Rattle.jvm_model.specs.World.{place_of}
use Rattle.jvm_model.specs.declared.values.Location.{Location}
use Rattle.jvm_model.specs.declared.values.Location.TheVariants as place
use Rattle.sim_store.specs.declared.store.{Part.Part, Part.TheVariants.File, Part.TheVariants.Prop}
use Rattle.vm_mem.specs.Stores.{place_in}
use Rattle.access_tags.specs.Numbering.{position}

-- these are no parts of objects
abbrev pub AreNames : List Location → Type 0
AreNames names = (k : ℕ) → place_of (get_or names k (place.Static 0)) ≡ None

-- a name with its number
abbrev pub Entry : Type 0
Entry = Vec ℕ Global × ℕ

-- the number of a location among the names, none where it isn't one
abbrev pub IsNumber : List Location → Location → Option ℕ → Type 0
IsNumber names L None = position names L ≡ length names
IsNumber names L (Some k) = (position names L ≡ k) × (k < length names)

-- these entries give the numbers of a part's names
abbrev pub AreNumbers : Part → List Location → List Entry → Type 0
AreNumbers part names es = (name : List ℕ) → IsNumber names (place_in part name) (lookup (λ k. bytes_eq name k.items) es)

-- files and properties, with the numbers of the files and those of the properties
pub record IsIndexed (names : List Location) (files props : List Entry) : Type 0 where
  pub none : AreNames names
  pub file_numbers : AreNumbers File names files
  pub prop_numbers : AreNumbers Prop names props
