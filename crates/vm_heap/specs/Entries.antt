-- The headers of objects, and their texts.
use Rattle.std.specs.Prelude.{ℕ, List, [], ◌∷◌, Option, None}
use Rattle.jvm_model.specs.{declared.values.Head.Head, World.no_object}
use Rattle.vm_heap.specs.declared.header.Header.{Header}

-- an object's header and its text, once one was written
pub record Entry : Type 0 where
  pub head : Head
  pub start : ℕ
  pub text : Option (List ℕ)

abbrev pub entry : Header → Option (List ℕ) → Entry
entry x t = record { head = x.head; start = x.start; text = t }

abbrev pub header_of : Entry → Header
header_of x = record { head = x.head; start = x.start }

abbrev pub no_entry : Entry
no_entry = record { head = no_object.head; start = 0; text = None }

-- the headers with their texts, of which the last ones may have none
abbrev pub entries : List Header → List (Option (List ℕ)) → List Entry
entries [] ts = []
entries (x ∷ xs) [] = entry x None ∷ entries xs []
entries (x ∷ xs) (t ∷ ts) = entry x t ∷ entries xs ts
