-- What stands above each class.
use Rattle.std.specs.Prelude.{◌≡◌, ℕ, List, [], get_or, Bool, false, ◌||◌, nat_eq}
use Rattle.jvm_model.specs.{declared.program.Program.Program, Classes.own_interfaces, Classes.implements, Classes.is_below, Selection.all_interfaces}

-- the table of the interfaces that each class reaches by its own entries
abbrev pub AreOwn : Program → List (List ℕ) → Type 0
AreOwn p table = (c : ℕ) → get_or table c [] ≡ own_interfaces p c

-- the table of each class's superinterfaces
abbrev pub AreInterfaces : Program → List (List ℕ) → Type 0
AreInterfaces p table = (c : ℕ) → get_or table c [] ≡ all_interfaces p c

-- for each class and interface, whether it is implemented
abbrev pub AreImplemented : Program → List (List Bool) → Type 0
AreImplemented p table = (c i : ℕ) → get_or (get_or table c []) i false ≡ implements p c i

-- for each two classes, whether the first is below the second; that it is the second need not stand there
abbrev pub AreBelow : Program → List (List Bool) → Type 0
AreBelow p table = (c d : ℕ) → (nat_eq d c || get_or (get_or table c []) d false) ≡ is_below p c d

pub record AreAbove (p : Program) (own interfaces : List (List ℕ)) (implemented below : List (List Bool)) : Type 0 where
  pub reached : AreOwn p own
  pub listed : AreInterfaces p interfaces
  pub flagged : AreImplemented p implemented
  pub chained : AreBelow p below
