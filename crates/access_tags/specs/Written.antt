-- Elements of a new array, which the running test writes one after the other.
use Rattle.std.specs.Prelude.{◌≡◌, ℕ, ◌<◌, ◌++◌, List, length}
use Rattle.jvm_model.specs.declared.values.{Touch.Touch, Value.Value}
use Rattle.jvm_model.specs.Access.{elems_made}
use Rattle.order_law.specs.Histories.{Touches}
use Rattle.access_tags.specs.declared.interval.{Interval.Interval, Sort.TheVariants.Elem}
use Rattle.access_tags.specs.declared.tags.Tags.{Tags}
use Rattle.access_tags.specs.{Intervals.part_at, Stands.Stands}
use Rattle.access_tags.specs.Numbering.{Numbering, IsPlaced}

-- the first elements of array o, of which the first one has the number at
abbrev pub elems_from : ℕ → ℕ → ℕ → Interval
elems_from o at many = record { sort = Elem; object = o; first = 0; end = many; at = at }

-- the elements of array o were written, which stand from a number on
abbrev pub HaveWritten : Tags → Tags → ℕ → ℕ → ℕ → Type 0
HaveWritten old new o at many = (n : Numbering) (T : Touches) (t : ℕ) (ts : List Touch) (vs : List Value) → length vs ≡ many
    → ((i : ℕ) → i < many → IsPlaced n (part_at (elems_from o at many) i)) → Stands n T t ts old → Stands n T t (ts ++ elems_made o 0 vs) new
