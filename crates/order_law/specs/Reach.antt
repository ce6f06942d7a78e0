-- What a test reaches, whether it is settled, and the record of a program (this project's).
use Rattle.std.specs.Prelude.{◌≡◌, ◌↔◌, ℕ, ◌+◌, ◌-◌, map, length, slice_get, Bool, true, false, not, ◌&&◌, ◌||◌, nat_eq, Option, Some, None}
use Rattle.std.specs.List.{list_any, list_all}
use Rattle.jvm_model.specs.declared.values.Base.TheVariants as base
use Rattle.jvm_model.specs.declared.{values.Kind.Kind, instr.Instr.Instr, outcome.Outcome.Outcome, program.Body.Body, program.Program.Program}
use Rattle.jvm_model.specs.declared.values.Kind.TheVariants as kind
use Rattle.jvm_model.specs.declared.values.Location.TheVariants as place
use Rattle.jvm_model.specs.declared.instr.Instr.TheVariants as form
use Rattle.jvm_model.specs.{World.at, World.same, Builtin.builtin_count, Builtin.out_field, Classes.class_at, State.test_at, Suite.all_tests, Suite.seq}
use Rattle.jvm_model.specs.Linked.{IsGiven}
use Rattle.order_law.specs.declared.records.{Reach.Reach, More.More, Record.Record, Prints.Prints}
use Rattle.order_law.specs.{Conflicts.Member, Conflicts.down, OwnRecord.places_in, OwnRecord.edges_of, RecordForm.numbers_ascend}
use Rattle.order_law.specs.Histories.{ran_after, Touches, exposed_in, touches_of}

-- the class of a kind, or the innermost element class of an array
abbrev pub inner_class : Kind → Option ℕ
inner_class (kind.Class c) = Some c
inner_class (kind.Array d (base.Class c)) = Some c
inner_class (kind.Array d _) = None

-- The least set of given classes that holds the class of the test, the classes of the objects whose heads it touches, and
-- with each class all that it mentions. `kinds` gives the kind of an object after a test.
pub data ReachesIn (p : Program) (T : Touches) (kinds : ℕ → ℕ → Kind) (t : ℕ) : ℕ → Type 0 where
  own : IsGiven p (test_at p t).class → ReachesIn p T kinds t (test_at p t).class
  touched : (o : ℕ) {c : ℕ} → Member (place.Head o) (places_in T t) → inner_class (kinds t o) ≡ Some c → IsGiven p c → ReachesIn p T kinds t c
  mentioned : {c d : ℕ} → ReachesIn p T kinds t c → Member d (class_at p c).mentions → IsGiven p d → ReachesIn p T kinds t d

-- those of the suite's own order
abbrev pub kinds_of : Program → ℕ → ℕ → Kind
kinds_of p t o = (at (ran_after p (down t) t).world (place.Head o)).kind

abbrev pub Reaches : Program → ℕ → ℕ → Type 0
Reaches p t c = ReachesIn p (touches_of p) (kinds_of p) t c

abbrev pub puts_out : Instr → Bool
puts_out (form.PutStatic f) = nat_eq f out_field
puts_out _ = false

abbrev pub body_puts_out : Option Body → Bool
body_puts_out None = false
body_puts_out (Some b) = list_any (λ x. puts_out x.form) b.code

-- some code puts the static `System.out`
abbrev pub puts_out_somewhere : Program → Bool
puts_out_somewhere p = list_any (λ m. body_puts_out m.body) p.methods

-- The test is settled: each of its exposed reads is of the static `System.out`, and no code puts that.
unfoldable pub is_settled_in : Program → Touches → ℕ → Bool
is_settled_in p T t = list_all (λ L. not (exposed_in T t L) || same L (place.Static out_field)) (places_in T t) && not (puts_out_somewhere p)

abbrev pub is_settled : Program → ℕ → Bool
is_settled p t = is_settled_in p (touches_of p) t

-- the reach of a test, its classes numbered from 1 in the suite's order
pub record IsReachIn (p : Program) (T : Touches) (kinds : ℕ → ℕ → Kind) (t : ℕ) (r : Reach) : Type 0 where
  pub settled : r.settled ≡ is_settled_in p T t
  pub ascending : numbers_ascend r.classes ≡ true
  pub classes : (j : ℕ) → Member j r.classes ↔ ReachesIn p T kinds t (j + (builtin_count - 1))

abbrev pub IsReachOf : Program → ℕ → Reach → Type 0
IsReachOf p t r = IsReachIn p (touches_of p) (kinds_of p) t r

abbrev pub units_in : Option Outcome → ℕ
units_in None = 0
units_in (Some o) = o.units

-- what version 2 of the record adds
pub record IsMoreOf (p : Program) (x : Prints) (m : More) : Type 0 where
  pub suite : m.suite ≡ x.suite
  pub classes : m.classes ≡ x.classes
  pub length : length m.reach ≡ length p.tests
  pub reach : (i : ℕ) (r : Reach) → slice_get m.reach i ≡ Some r → IsReachOf p (i + 1) r

-- The record of a detected program with these prints.
pub record IsRecordOf (p : Program) (x : Prints) (r : Record) : Type 0 where
  pub digest : r.digest ≡ x.digest
  pub units : r.units ≡ map (λ t. units_in (seq p t)) (all_tests p)
  pub edges : r.edges ≡ edges_of p
  pub more : (m : More) → r.more ≡ Some m → IsMoreOf p x m
