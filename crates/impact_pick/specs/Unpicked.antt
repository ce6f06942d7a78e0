-- What the record of the one program says of the other's tests, where the classes that unhit tests reach are matched (this project's).
use Rattle.std.specs.Prelude.{◌≡◌, ℕ, ◌-◌, List, length, map, Bool, true, false, not, ◌&&◌, nat_le, Option, Some, option_map, IsSome}
use Rattle.std.specs.List.{list_any}
use Rattle.et_base.specs.Quotes.{name_of}
use Rattle.jvm_model.specs.{declared.program.Names.Names, declared.program.Program.Program, Builtin.builtin_count, Classes.class_at, Classes.member}
use Rattle.jvm_model.specs.{Linked.Linked, Linked.IsGiven, State.test_at, Suite.seq, Suite.is_detected, Texts.outcome_lines}
use Rattle.order_law.specs.{Conflicts.Member, Histories.IsTestNumber, Matched.Matched, Numbers.Numbers, Reach.IsRecordOf}
use Rattle.order_law.specs.declared.records.{Prints.Prints, Record.Record, Reach.Reach, More.More}
use Rattle.impact_pick.specs.{Carried.IsCarried, Pick.is_changed, Pick.is_picked}

-- nothing in this reach has changed, and the given class of number c, counted from 0 behind the built-in ones, is in it
abbrev pub holds_unchanged : More → Prints → ℕ → Reach → Bool
holds_unchanged m x c r = not (list_any (is_changed m x) r.classes) && member (c - (builtin_count - 1)) r.classes

-- a given class that some unhit test reaches
unfoldable pub is_kept : More → Prints → ℕ → Bool
is_kept m x c = nat_le builtin_count c && list_any (holds_unchanged m x c) m.reach

-- the names that reports print, where tests have these
abbrev pub named : List (List ℕ) → Program → Names
named tests p = record { tests = tests; classes = map (λ c. name_of c.name) p.classes; fields = map (λ f. name_of f.name) p.fields }

-- the report lines of test t in the suite's own order
abbrev pub lines_of : List (List ℕ) → Program → ℕ → Option (List ℕ)
lines_of tests p t = option_map (outcome_lines (named tests p) t) (seq p t)

-- The kept classes are given ones, none has changed, and with each all that it mentions is kept.
pub record KeptClasses (p : Program) (m : More) (x : Prints) : Type 0 where
  pub given : (c : ℕ) → is_kept m x c ≡ true → IsGiven p c
  pub unchanged : (c : ℕ) → is_kept m x c ≡ true → is_changed m x (c - (builtin_count - 1)) ≡ false
  pub closed : (c d : ℕ) → is_kept m x c ≡ true → Member d (class_at p c).mentions → IsGiven p d → is_kept m x d ≡ true

-- The kept classes are that by the record of a program, whatever sums there are now.
abbrev pub KeptLaw : Type 0
KeptLaw = (p : Program) (x y : Prints) (r : Record) (m : More) → IsRecordOf p x r → r.more ≡ Some m → KeptClasses p m y

-- Where the programs match by some numbers, and each test of a kept class is carried over, a test that isn't picked has the
-- same report lines in both.
abbrev pub UnpickedLaw : Type 0
UnpickedLaw = (n : Numbers) (p q : Program) (x y : Prints) (r : Record) (m : More) (tests : List (List ℕ)) (t : ℕ) → Linked p → Linked q → p.files ≡ q.files → length p.tests ≡ length q.tests →
    is_detected p ≡ true → is_detected q ≡ true → IsRecordOf p x r → r.more ≡ Some m → Matched n p q →
    ((u : ℕ) → IsTestNumber p u → is_kept m y (test_at p u).class ≡ true → IsCarried n p q u) →
    IsTestNumber p t → is_picked m q y t ≡ false → IsSome (lines_of tests p t) × (lines_of tests q t ≡ lines_of tests p t)
