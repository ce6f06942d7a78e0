-- What is kept of a run of tests stands for its touches.
use Rattle.std.specs.Prelude.{◌≡◌, ℕ, Bool, List, [], ◌∷◌, ◌++◌}
use Rattle.jvm_model.specs.declared.values.{Location.Location, Touch.Touch}
use Rattle.order_law.specs.Histories.{Touches}
use Rattle.access_tags.specs.declared.conflict.{LocationKey.LocationKey, Touched.Touched}
use Rattle.access_tags.specs.declared.tags.Tags.{Tags}
use Rattle.access_tags.specs.Tag.{Tag, tag, places}
use Rattle.access_tags.specs.{Shelf.tag_in, AccessLogs.touched_in}
use Rattle.access_tags.specs.Numbering.{Numbering, view, located, IsPlaced, ArePlaced, locations}

-- These tags of cells and of names, and this list of what is touched: t tests ended, and the running one touched ts.
pub record StandFor (n : Numbering) (T : Touches) (t : ℕ) (ts : List Touch) (c d : ℕ → Tag) (xs : List Touched) : Type 0 where
  pub tags : (L : Location) → view n c d L ≡ tag T t ts L
  pub touched : locations n xs ≡ places ts
  pub placed : ArePlaced n xs

abbrev pub Stands : Numbering → Touches → ℕ → List Touch → Tags → Type 0
Stands n T t ts s = StandFor n T t ts (tag_in s.cells) (tag_in s.named) (touched_in s.touched)

-- one more touch of a part was noted at its number
abbrev pub HasTouched : Tags → Tags → LocationKey → ℕ → Bool → Type 0
HasTouched old new s k write = (n : Numbering) (T : Touches) (t : ℕ) (ts : List Touch) (x : Touch) → IsPlaced n (record { spot = s; at = k }) → x.write ≡ write → x.location ≡ located n.names s
    → Stands n T t ts old → Stands n T t (ts ++ x ∷ []) new
