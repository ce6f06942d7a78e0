-- What the tests of a generated suite touch, and its own record (this project's).
use Rattle.std.specs.Prelude.{◌≡◌, ◌↔◌, ◌≤◌, ℕ, ◌+◌, ◌-◌, ◌/◌, ◌%◌, List, [], ◌∷◌, length, count_by, map, Bool, true, false, None, ◌==◌, if◌then◌else◌}
use Rattle.std.specs.List.{range_with_len}
use Rattle.jvm_model.specs.declared.values.{Location.Location, Touch.Touch}
use Rattle.jvm_model.specs.declared.values.Location.TheVariants as place
use Rattle.order_law.specs.declared.edges.{Edge.Edge, EdgeKind.TheVariants.Raw, EdgeKind.TheVariants.Waw, EdgeKind.TheVariants.War}
use Rattle.order_law.specs.declared.records.{Prints.Prints, Record.Record}
use Rattle.order_law.specs.{Conflicts.Member, OwnRecord.edges_of, Plan.AreListedChainsOf, Reach.IsRecordOf}
use Rattle.suite_gen.specs.Generated.{group_of, group_count}
use Rattle.generated_law.specs.{GeneratedSuite.field_number, GeneratedSuite.generated_program, GeneratedRun.outcome_of}

-- the static of a group
abbrev pub static_of : ℕ → Location
static_of g = place.Static (field_number g)

abbrev pub touch_of : Bool → Location → Touch
touch_of write l = record { write = write; location = l; gave = None }

-- What test i touches, in order: the static of its group alone.
unfoldable pub touches_at : ℕ → List Touch
touches_at i = if (i - 1) % 4 == 0 then touch_of true (static_of (group_of i)) ∷ []
    else if (i - 1) % 4 == 2 then touch_of false (static_of (group_of i)) ∷ touch_of true (static_of (group_of i)) ∷ []
    else touch_of false (static_of (group_of i)) ∷ []

abbrev pub is_raw : Edge → Bool
is_raw e = elim e.kind [ Raw ↦ true | Waw ↦ false | War ↦ false ]

abbrev pub is_waw : Edge → Bool
is_waw e = elim e.kind [ Raw ↦ false | Waw ↦ true | War ↦ false ]

abbrev pub is_war : Edge → Bool
is_war e = elim e.kind [ Raw ↦ false | Waw ↦ false | War ↦ true ]

-- Of the generated suite's own record: each test but the first of a group reads what one test before it wrote, and the third
-- of a group writes over what the first wrote and the second read.
pub record IsGeneratedRecord (k : ℕ) (r : Record) : Type 0 where
  pub units : r.units ≡ map (λ i. (outcome_of i).units) (range_with_len 1 k)
  pub raw : count_by is_raw r.edges ≡ k - group_count k
  pub waw : count_by is_waw r.edges ≡ (k + 1) / 4
  pub war : count_by is_war r.edges ≡ (k + 1) / 4

abbrev pub RecordLaw : Type 0
RecordLaw = (k : ℕ) (prints : Prints) (r : Record) → k ≤ 1024 → IsRecordOf (generated_program k) prints r → IsGeneratedRecord k r

-- The chains of the whole suite are its groups.
abbrev pub ChainLaw : Type 0
ChainLaw = (k : ℕ) (set : List ℕ) (C : List (List ℕ)) → k ≤ 1024 → ((t : ℕ) → Member t set ↔ ((1 ≤ t) × (t ≤ k)))
    → AreListedChainsOf (edges_of (generated_program k)) (λ t. Member t set) C → length C ≡ group_count k
