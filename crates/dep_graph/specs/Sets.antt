-- Sets of tests.
use Rattle.std.specs.Prelude.{ℕ, ◌/◌, ◌%◌, Bool, nat_eq, slice_index}
use Rattle.std.specs.Int.{bit_at}
use Rattle.dep_graph.specs.declared.sets.TestSet.{TestSet}

-- whether the set holds a test: the bit of its number
unfoldable pub holds : TestSet → ℕ → Bool
holds s t = nat_eq (bit_at (slice_index s.words (t / 64)) (t % 64)) 1
