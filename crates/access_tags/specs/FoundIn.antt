-- What is kept of a run of tests, and the edges to its first tests.
use Rattle.std.specs.Prelude.{◌≡◌, ◌+◌, ◌-◌, ℕ, Bool, List, flat_map, length, map, slice_get, Some}
use Rattle.std.specs.List.{list_all, range_with_len}
use Rattle.jvm_model.specs.declared.program.Program.{Program}
use Rattle.jvm_model.specs.declared.values.Location.{Location}
use Rattle.order_law.specs.declared.edges.Edge.{Edge}
use Rattle.order_law.specs.{Histories.Touches, RecordForm.is_place_text}
use Rattle.access_tags.specs.declared.ended.Ended.{Ended}
use Rattle.access_tags.specs.{Followed.IsEnded, Rows.edges_at}

-- what is kept of the tests before the last one, and of that, with walks or without
pub record AreEnded (walks_kept : Bool) (T : Touches) (names : List Location) (xs : List Ended) (y : Ended) : Type 0 where
  pub each : (i : ℕ) (x : Ended) → slice_get xs i ≡ Some x → IsEnded walks_kept T names (i + 1) x
  pub last : IsEnded walks_kept T names (length xs + 1) y

-- the edges to the first n tests
abbrev pub edges_up_to : Program → Touches → (ℕ → ℕ × ℕ) → ℕ → List Edge
edges_up_to p T by n = flat_map (λ t. edges_at p T by t) (range_with_len 1 n)

-- how much each of the first n tests adds to a count
abbrev pub added : (ℕ → ℕ) → ℕ → List ℕ
added f n = map (λ t. f t - f (t - 1)) (range_with_len 1 n)

-- the text of each edge is in the form of a record
abbrev pub are_printed : List Edge → Bool
are_printed es = list_all (λ (e : Edge). is_place_text e.first) es
