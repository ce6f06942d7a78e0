-- The parts that were touched, in intervals of which each one is beside the one before it.
use Rattle.std.specs.Prelude.{ℕ, ◌+◌, ◌-◌, ◌≤◌, ◌<◌, List, map, flat_map, length, get_or}
use Rattle.std.specs.List.{range_with_len}
use Rattle.access_tags.specs.declared.conflict.{LocationKey.LocationKey, Touched.Touched}
use Rattle.access_tags.specs.declared.conflict.LocationKey.TheVariants as spot
use Rattle.access_tags.specs.declared.interval.{Sort.Sort, Interval.Interval}
use Rattle.access_tags.specs.declared.interval.Sort.TheVariants as sort

-- the part of a sort with an index, of object o where the sort has one
abbrev pub spot_in : Sort → ℕ → ℕ → LocationKey
spot_in sort.Static o i = spot.Static i
spot_in sort.Init o i = spot.Init i
spot_in sort.Head o i = spot.Head o
spot_in sort.Field o i = spot.Field o i
spot_in sort.Elem o i = spot.Elem o i
spot_in sort.Text o i = spot.Text o
spot_in sort.Named o i = spot.Named i

-- the part of an interval with an index, and its number
abbrev pub part_at : Interval → ℕ → Touched
part_at s i = record { spot = spot_in s.sort s.object i; at = s.at + (i - s.first) }

-- those before an index
abbrev pub parts_to : Interval → ℕ → List Touched
parts_to s end = map (λ i. part_at s i) (range_with_len s.first (end - s.first))

abbrev pub parts_of : Interval → List Touched
parts_of s = parts_to s s.end

-- those of all intervals
abbrev pub parts : List Interval → List Touched
parts ss = flat_map (λ s. parts_of s) ss

-- none ends before it begins
abbrev pub AreOrdered : List Interval → Type 0
AreOrdered ss = (k : ℕ) (s : Interval) → k < length ss → (get_or ss k s).first ≤ (get_or ss k s).end
