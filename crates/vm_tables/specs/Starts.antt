-- What starts with a class.
use Rattle.std.specs.Prelude.{◌≡◌, ℕ, List, [], get_or, map, Bool, true, not, ◌&&◌}
use Rattle.std.specs.List.{list_all}
use Rattle.jvm_model.specs.declared.program.Program.{Program}
use Rattle.jvm_model.specs.{Classes.declares_start, Classes.default_interfaces, Classes.is_trivial, Initialise.Part as Before, Initialise.parts_of}
use Rattle.vm_tables.specs.declared.init_plan.Part.{Part}

-- neither the class nor a default interface of it declares `<clinit>`
abbrev pub is_silent : Program → ℕ → Bool
is_silent p c = not (declares_start p c) && list_all (λ i. not (declares_start p i)) (default_interfaces p c)

-- the table of trivial classes; a number past them is trivial
abbrev pub AreTrivial : Program → List Bool → Type 0
AreTrivial p table = (c : ℕ) → get_or table c true ≡ is_trivial p c

-- the definition's part
abbrev pub part_of : Part → Before
part_of x = record { class = x.class; price = x.price }

abbrev pub interface_part : ℕ → Before
interface_part i = record { class = i; price = 1 }

abbrev pub is_started : Program → Before → Bool
is_started p x = not (is_trivial p x.class)

-- the table of what is initialised before each class
abbrev pub AreParts : Program → List (List Part) → Type 0
AreParts p table = (c : ℕ) → map part_of (get_or table c []) ≡ parts_of p c
