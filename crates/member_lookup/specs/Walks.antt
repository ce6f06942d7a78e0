-- The classes above a class, in the order in which look-ups come to them.
use Rattle.std.specs.Prelude.{◌≡◌, ℕ, zero, suc, List, [], ◌∷◌, ◌++◌, flat_map, Bool, true, false, not, ◌&&◌, cond, nat_eq, nat_le, Option, Some, None}
use Rattle.indexmap.specs.{IndexMap.IndexMap, IndexMap.get, IndexMap.keys, IndexSet.insert_all}
use Rattle.jvm_model.specs.{declared.program.Program.Program, Lookup.is_method, Selection.has_code}
use Rattle.jvm_model.specs.Classes.{class_at, method_at, class_bound, is_private, is_static, member}
use Rattle.std.specs.Option.{option_to_list}

-- the classes just above one: its direct superinterfaces and, where asked, its superclass behind them
abbrev pub nexts : Program → Bool → ℕ → List ℕ
nexts p supers c = (class_at p c).interfaces ++ cond supers (option_to_list (class_at p c).superclass) []

-- a class and those above it, each before those above itself, at most k steps up
abbrev pub walk : Program → Bool → ℕ → ℕ → List ℕ
walk p supers zero c = []
walk p supers (suc k) c = c ∷ flat_map (λ d. walk p supers k d) (nexts p supers c)

-- where a class is noted with a number of steps, all that is so many steps above it is noted too
abbrev pub IsWalked : {S : Type 0} → Program → Bool → IndexMap ℕ ℕ S → Type 0
IsWalked p supers seen = (c k : ℕ) → get nat_eq seen c ≡ Some k → (d : ℕ) → member d (walk p supers k c) ≡ true → member d (keys seen) ≡ true

-- a class noted with this number was walked k steps up
abbrev pub is_walked : ℕ → Option ℕ → Bool
is_walked k None = false
is_walked k (Some n) = nat_le k n

-- the classes of xs are noted behind those that were noted before, each once
pub record Visits {S : Type 0} (p : Program) (supers : Bool) (xs : List ℕ) (old new : IndexMap ℕ ℕ S) : Type 0 where
  pub noted : keys new ≡ insert_all nat_eq (keys old) xs
  pub walked : IsWalked p supers new

-- the superinterfaces that the direct superinterfaces of a class lead to
abbrev pub above_class : Program → ℕ → List ℕ
above_class p c = flat_map (λ i. walk p false class_bound i) (class_at p c).interfaces

-- a method of this name and descriptor, neither static nor private
abbrev pub is_open : Program → List ℕ → List ℕ → ℕ → Bool
is_open p name descriptor n = is_method p name descriptor n && (not (is_private (method_at p n).flags) && not (is_static (method_at p n).flags))

-- a method with code whose class isn't one of these
abbrev pub is_kept : Program → List ℕ → ℕ → Bool
is_kept p above n = not (member (method_at p n).class above) && has_code p n
