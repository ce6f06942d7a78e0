-- The locations that a row shows, wherever they stand.
use Rattle.std.specs.Prelude.{List, []}
use Rattle.access_tags.specs.declared.conflict.LocationKey.{LocationKey}
use Rattle.access_tags.specs.declared.spots.Held.{Held}
use Rattle.access_tags.specs.declared.spots.Held.TheVariants.{Nowhere, Here, Apart}

abbrev pub spots_in : Held → List LocationKey
spots_in Nowhere = []
spots_in (Here spots) = spots
spots_in (Apart spots) = spots
