-- The objects whose cells stand one after the other in a list.
use Rattle.std.specs.Prelude.{◌≡◌, ℕ, ◌+◌, List, [], ◌∷◌, ◌++◌, length, take, drop, map}
use Rattle.std.specs.List.{zip}
use Rattle.jvm_model.specs.declared.{program.Program.Program, values.Value.Value, values.Head.Head}
use Rattle.jvm_model.specs.{World.Object, Classes.fields_of, Classes.elems_of, View.keys}
use Rattle.vm_heap.specs.Entries.{Entry}

-- the numbers of an object's fields, in the order of its cells
abbrev pub field_numbers : Program → Head → List ℕ
field_numbers p h = keys (fields_of p h.kind)

-- a new object's cells: the fields' default values, and the elements'
abbrev pub new_cells : Program → Head → List Value
new_cells p h = map (λ x. x.1) (fields_of p h.kind) ++ elems_of h.kind h.length

-- how many cells an object has
abbrev pub cell_count : Program → Head → ℕ
cell_count p h = length (field_numbers p h) + length (elems_of h.kind h.length)

-- the object of a header and its cells
abbrev pub object_of : Program → Entry → List Value → Object
object_of p x cs = record { head = x.head; fields = zip (field_numbers p x.head) cs; elems = drop (length (field_numbers p x.head)) cs; text = x.text }

-- the objects of headers whose cells stand one after the other
abbrev pub objects_of : Program → List Entry → List Value → List Object
objects_of p [] cs = []
objects_of p (x ∷ xs) cs = object_of p x (take (cell_count p x.head) cs) ∷ objects_of p xs (drop (cell_count p x.head) cs)

-- how many cells there are
abbrev pub total : Program → List Entry → ℕ
total p [] = 0
total p (x ∷ xs) = cell_count p x.head + total p xs

-- each header notes where its cells begin, the first ones at n
abbrev pub AreBeside : Program → ℕ → List Entry → Type 0
AreBeside p n [] = Unit {0}
AreBeside p n (x ∷ xs) = (x.start ≡ n) × AreBeside p (n + cell_count p x.head) xs

-- the headers and the cells go together
pub record IsWhole (p : Program) (xs : List Entry) (cs : List Value) : Type 0 where
  pub beside : AreBeside p 0 xs
  pub full : length cs ≡ total p xs

-- a heap's headers and cells go together, and its table of places is of the same program
pub record IsHeap (p q : Program) (xs : List Entry) (cs : List Value) : Type 0 where
  pub whole : IsWhole p xs cs
  pub same : q ≡ p
