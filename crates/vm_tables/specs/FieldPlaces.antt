-- Where a field's cell stands in an object.
use Rattle.std.specs.Prelude.{◌≡◌, ℕ, suc, ◌<◌, length, List, [], ◌∷◌, get_or, cond, true, nat_eq}
use Rattle.jvm_model.specs.{declared.program.Program.Program, Classes.layout, Classes.member}

-- the place of a number in a list, or the list's length
abbrev pub place : ℕ → List ℕ → ℕ
place f [] = 0
place f (k ∷ ks) = cond (nat_eq f k) 0 (suc (place f ks))

-- a field has one place in the objects of all classes
abbrev pub AreFieldPlaces : Program → List ℕ → Type 0
AreFieldPlaces p places = (f c : ℕ) → member f (layout p c) ≡ true → get_or places f 0 ≡ place f (layout p c)

-- objects of some class have the field
abbrev pub IsHeld : Program → ℕ → Type 0
IsHeld p f = (c : ℕ) × (member f (layout p c) ≡ true)

-- the table has an entry for each such field
abbrev pub HaveEntries : Program → List ℕ → Type 0
HaveEntries p places = (f : ℕ) → IsHeld p f → f < length places
