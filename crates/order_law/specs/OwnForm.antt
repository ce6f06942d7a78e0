-- What the record of a program keeps of a record's form (this project's).
use Rattle.std.specs.Prelude.{◌≡◌, ℕ, ◌-◌, ◌<◌, ◌≤◌, ◌^◌, List, map, length, Bool, true, nat_lt}
use Rattle.std.specs.List.{list_all}
use Rattle.jvm_model.specs.{declared.program.Program.Program, declared.values.Kind.Kind, declared.values.Location.Location, Classes.class_at, Classes.field_at}
use Rattle.jvm_model.specs.declared.values.Location.TheVariants as place
use Rattle.jvm_model.specs.{Texts.location_text, Builtin.builtin_count, Linked.Linked, Suite.all_tests, Suite.seq, Suite.is_detected}
use Rattle.order_law.specs.declared.{edges.Edge.Edge, records.Reach.Reach}
use Rattle.order_law.specs.{Conflicts.Member, Histories.Touches, Histories.IsTestNumber, OwnRecord.edges_in, OwnRecord.cut, Reach.units_in, Reach.IsReachIn}
use Rattle.order_law.specs.RecordForm.{are_units, edges_ascend, is_reach, is_place_text}

-- The units of a detected program's tests are those of a record.
abbrev pub UnitsLaw : Type 0
UnitsLaw = (p : Program) → Linked p → is_detected p ≡ true → are_units (map (λ t. units_in (seq p t)) (all_tests p)) ≡ true

-- an edge between two of n tests, the earlier one first, at one location at least and at most as many as the later one touches
pub record IsCounted (T : Touches) (n : ℕ) (e : Edge) : Type 0 where
  pub first : 1 ≤ e.earlier
  pub rises : e.earlier < e.later
  pub last : e.later ≤ n
  pub some : 1 ≤ e.count
  pub few : e.count ≤ length (T e.later)

-- The edges of any touches ascend, and each is counted.
abbrev pub OrderedLaw : Type 0
OrderedLaw = (p : Program) (T : Touches) (by : ℕ → ℕ × ℕ) → edges_ascend (edges_in p T by) ≡ true

abbrev pub CountedLaw : Type 0
CountedLaw = (p : Program) (T : Touches) (by : ℕ → ℕ × ℕ) (e : Edge) → Member e (edges_in p T by) → IsCounted T (length p.tests) e

-- The reach of a test, over the given classes, is in form.
abbrev pub ReachLaw : Type 0
ReachLaw = (p : Program) (T : Touches) (kinds : ℕ → ℕ → Kind) (t : ℕ) (r : Reach) → Linked p → IsTestNumber p t → IsReachIn p T kinds t r → is_reach (length p.classes - builtin_count) r ≡ true

-- each is a code unit
abbrev pub are_code_units : List ℕ → Bool
are_code_units us = list_all (λ u. nat_lt u (2 ^ 16)) us

-- the names of classes and fields are of code units (JVMS 4.4.7)
pub record HasCodeUnits (p : Program) : Type 0 where
  pub classes : (c : ℕ) → are_code_units (class_at p c).name ≡ true
  pub fields : (f : ℕ) → are_code_units (field_at p f).name ≡ true

abbrev pub IsNumbered : ℕ × ℕ → Type 0
IsNumbered x = (x.0 < 2 ^ 64) × (x.1 < 2 ^ 64)

-- what a location's text shows beside names: numbers below 2 ^ 64, and code units
abbrev pub IsShown : (ℕ → ℕ × ℕ) → Location → Type 0
IsShown by (place.Static f) = Unit {0}
IsShown by (place.Init c) = Unit {0}
IsShown by (place.Head o) = IsNumbered (by o)
IsShown by (place.Field o f) = IsNumbered (by o)
IsShown by (place.Elem o i) = IsNumbered (by o) × (i < 2 ^ 64)
IsShown by (place.Text o) = IsNumbered (by o)
IsShown by (place.File n) = are_code_units n ≡ true
IsShown by (place.Prop n) = are_code_units n ≡ true

-- The text of a location, cut as in an edge, is in form.
abbrev pub PlaceLaw : Type 0
PlaceLaw = (p : Program) (by : ℕ → ℕ × ℕ) (L : Location) → HasCodeUnits p → IsShown by L → is_place_text (cut (location_text p by L)) ≡ true
