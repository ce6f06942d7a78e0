-- One part of a store.
use Rattle.std.specs.Prelude.{List}
use Rattle.sim_store.specs.{declared.store.Part.Part, declared.store.Part.TheVariants.File, declared.store.Part.TheVariants.Prop, Stored.Stored, Stored.Named}

abbrev pub in_part : Part → Stored → List Named
in_part File s = s.files
in_part Prop s = s.props

-- the store with another list as that part
abbrev pub with_part : Part → Stored → List Named → Stored
with_part File s xs = record s { files = xs }
with_part Prop s xs = record s { props = xs }
