-- Texts, and an ordered map with the place of each.
use Rattle.std.specs.Prelude.{◌≡◌, ◌<◌, ℕ, List, length, position, Option}
use Rattle.std.specs.{Ordering.nat_cmp, Cmp.Lexicographic.slice_cmp, BTreeMap.BTreeMap, BTreeMap.get_by, Str.bytes_eq}
use Rattle.std.specs.declared.{vec.Vec.Vec, alloc.Global.Global}

-- the number that the map has for a text
abbrev pub number_in : BTreeMap (Vec ℕ Global) ℕ → List ℕ → Option ℕ
number_in places text = get_by (λ k. slice_cmp nat_cmp text k.items) places

-- the map has the place of each of these texts, and of no other
pub record IsPlaced (texts : List (List ℕ)) (places : BTreeMap (Vec ℕ Global) ℕ) : Type 0 where
  pub few : length texts < 4294967295
  pub at : (text : List ℕ) → number_in places text ≡ position (bytes_eq text) texts
