-- What is asked of a record and of sums (this project's).
use Rattle.std.specs.Prelude.{ℕ, List, length, Bool, false, ◌&&◌, nat_eq, nat_le, Option, Some, None}
use Rattle.std.specs.List.{list_all}
use Rattle.order_law.specs.declared.records.{More.More, Prints.Prints}

-- numbers from 1 to n
abbrev pub are_within : ℕ → List ℕ → Bool
are_within n xs = list_all (λ x. nat_le 1 x && nat_le x n) xs

-- a record of version 2, of as many class files as there are sums
abbrev pub fits_prints : Option More → Prints → Bool
fits_prints None x = false
fits_prints (Some m) x = nat_eq (length m.classes) (length x.classes)
