-- What is kept of the locations, by their numbers.
use Rattle.std.specs.Prelude.{◌≡◌, ◌≤◌, ◌<◌, ◌^◌, ℕ, suc, List, [], ◌∷◌, Bool, false, cond, length, reverse, get_or, nat_eq}
use Rattle.std.specs.List.{list_any}
use Rattle.access_tags.specs.declared.mark.{Mark.Mark, Past.Past, Reader.Reader}
use Rattle.access_tags.specs.Tag.{Tag, no_mark}

-- no two are equal, by the test e
abbrev pub Apart : {A : Type 0} → (A → A → Bool) → List A → Type 0
Apart e [] = Unit {0}
Apart e (x ∷ xs) = (list_any (e x) xs ≡ false) × Apart e xs

-- the tests of a chain among readers of which the latest stands first; a reader's number is its place from 1
abbrev pub chain : List Reader → ℕ → List ℕ
chain [] at = []
chain (r ∷ rs) at = cond (nat_eq at (suc (length rs))) (r.test ∷ chain rs r.next) (chain rs at)

abbrev pub no_reader : Reader
no_reader = record { test = 0; next = 0 }

-- each reader leads to an earlier one
abbrev pub AreDown : List Reader → Type 0
AreDown rs = (k : ℕ) → (get_or rs k no_reader).next ≤ k

abbrev pub no_past : Past
no_past = record { writer = 0; readers = 0 }

-- the tag of a location with this past and mark, where the latest reader stands first
abbrev pub tag_by : Past → List Reader → Mark → Tag
tag_by x rs m = record { writer = x.writer; readers = chain rs x.readers; mark = m }

-- the tag of the location with number n in these lists
abbrev pub look : List Past → List Reader → List Mark → ℕ → Tag
look ps rs ms n = tag_by (get_or ps n no_past) (reverse rs) (get_or ms n no_mark)

pub record AreCells (ps : List Past) (rs : List Reader) (ms : List Mark) : Type 0 where
  pub within : length ps ≤ length ms
  pub down : AreDown rs
  pub below : (n : ℕ) → (get_or ps n no_past).readers ≤ length rs
  pub few : length rs < 2 ^ 32

-- with readers rs' in the place of rs the chain from n is that of reader r among rs, and other chains stay
pub record IsLinked (rs : List Reader) (r : Reader) (rs' : List Reader) (n : ℕ) : Type 0 where
  pub given : chain (reverse rs') n ≡ r.test ∷ chain (reverse rs) r.next
  pub kept : (at : ℕ) → at ≤ length rs → chain (reverse rs') at ≡ chain (reverse rs) at
  pub down : AreDown rs'
  pub within : n ≤ length rs'
  pub more : length rs ≤ length rs'
  pub few : length rs' < 2 ^ 32

-- no test that ended touched the locations from number n on
abbrev pub AreFresh : (ℕ → Tag) → ℕ → Type 0
AreFresh c n = (l : ℕ) → n ≤ l → ((c l).writer ≡ 0) × ((c l).readers ≡ [])
