-- Superclasses and superinterfaces of a class, as lists, and the first class that is its own ancestor.
use Rattle.std.specs.Prelude.{ℕ, ◌+◌, ◌<◌, List, ◌++◌, ◌≡◌, ◌↔◌, true, Option, Some, None}
use Rattle.std.specs.Option.{option_to_list}
use Rattle.jvm_model.specs.{declared.program.Program.Program, Builtin.builtin_count, Classes.class_at, Classes.member, Linked.IsAncestor}

-- the superclass and the direct superinterfaces of a class
abbrev pub directs : Program → ℕ → List ℕ
directs p c = option_to_list (class_at p c).superclass ++ (class_at p c).interfaces

-- these are the ancestors of a class
abbrev pub AreAncestors : Program → ℕ → List ℕ → Type 0
AreAncestors p c ds = (d : ℕ) → (member d ds ≡ true) ↔ IsAncestor p c d

-- the first class behind the built-in ones that is its own ancestor, by its place behind them; no class before it is
abbrev pub IsFirstCycle : Program → Option ℕ → Type 0
IsFirstCycle p None = (c : ℕ) → IsAncestor p c c → ⊥
IsFirstCycle p (Some i) = IsAncestor p (builtin_count + i) (builtin_count + i) × ((c : ℕ) → c < builtin_count + i → IsAncestor p c c → ⊥)
