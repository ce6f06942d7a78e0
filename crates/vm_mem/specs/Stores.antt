-- Files and properties as parts of the world.
use Rattle.std.specs.Prelude.{ℕ, List, Option}
use Rattle.sim_store.specs.declared.store.{Part.Part, Part.TheVariants.File, Part.TheVariants.Prop}
use Rattle.jvm_model.specs.{declared.values.Location.Location, World.World, World.at, World.put}
use Rattle.jvm_model.specs.declared.values.Location.TheVariants as place

abbrev pub place_in : Part → List ℕ → Location
place_in File n = place.File n
place_in Prop n = place.Prop n

-- the text at a name
abbrev pub found_in : Part → World → List ℕ → Option (List ℕ)
found_in File w n = at w (place.File n)
found_in Prop w n = at w (place.Prop n)

-- the world with another text at a name
abbrev pub put_in : Part → World → List ℕ → Option (List ℕ) → World
put_in File w n c = put w (place.File n) c
put_in Prop w n c = put w (place.Prop n) c
