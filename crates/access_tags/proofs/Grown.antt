-- The tags after more locations came.
use Rattle.std.proofs.Common.{◌≡◌, ℕ, [], zero, suc, ◌+◌, ◌≤◌, List, ◌∷◌, ◌++◌, length, get_or, replicate, reverse, refl, ◌∙◌, ap, arith, length-append}
use Rattle.std.proofs.lemmas.List.{length-replicate, get_or_past}
use Rattle.jvm_model.proofs.Ranges.{default_in}
use Rattle.access_tags.specs.declared.mark.{Mark.Mark, Past.Past, Reader.Reader}
use Rattle.access_tags.specs.Tag.{no_mark, no_tag}
use Rattle.access_tags.specs.Cells.{chain, look, no_past, AreCells, AreFresh}
use Rattle.access_tags.proofs.{Settle.same_tag, Chains.chain_end}

-- defaults at the end change no place
pub get_or-defaults : {A : Type 0} (xs : List A) (n i : ℕ) (d : A) → get_or (xs ++ replicate n d) i d ≡ get_or xs i d
get_or-defaults [] n i d = default_in n i d
get_or-defaults (x ∷ xs) n zero d = refl
get_or-defaults (x ∷ xs) n (suc i) d = get_or-defaults xs n i d

pub more_look : (ps : List Past) (rs : List Reader) (ms : List Mark) (n l : ℕ) → look ps rs (ms ++ replicate n no_mark) l ≡ look ps rs ms l
more_look ps rs ms n l = same_tag refl refl (get_or-defaults ms n l no_mark)

pub more_cells : (ps : List Past) (rs : List Reader) (ms : List Mark) (n : ℕ) → AreCells ps rs ms → AreCells ps rs (ms ++ replicate n no_mark)
more_cells ps rs ms n c = let a = c.within in let e = length-append ms (replicate n no_mark) in record { within = omega arith; down = c.down; below = c.below; few = c.few }

-- room for what tests did that ended
pub past_look : (ps : List Past) (rs : List Reader) (ms : List Mark) (n l : ℕ) → look (ps ++ replicate n no_past) rs ms l ≡ look ps rs ms l
past_look ps rs ms n l = let g = get_or-defaults ps n l no_past in same_tag (ap (λ (x : Past). x.writer) g) (ap (λ (x : Past). chain (reverse rs) x.readers) g) refl

pub more_pasts : (ps : List Past) (rs : List Reader) (ms : List Mark) (n : ℕ) → length ps + n ≤ length ms → AreCells ps rs ms → AreCells (ps ++ replicate n no_past) rs ms
more_pasts ps rs ms n h c = let e = length-append ps (replicate n no_past) in let f = length-replicate n no_past in record {
  within = omega arith;
  down = c.down;
  below = λ i. let g = ap (λ (x : Past). x.readers) (get_or-defaults ps n i no_past) in let k = c.below i in omega arith;
  few = c.few;
}

-- where there is no such room, no test that ended touched a location
pub fresh_past : (ps : List Past) (rs : List Reader) (ms : List Mark) (at : ℕ) → length ps ≤ at → AreFresh (look ps rs ms) at
fresh_past ps rs ms at h l k = let g = get_or_past ps l no_past (omega arith) in
    (ap (λ (x : Past). x.writer) g, ap (λ (x : Past). chain (reverse rs) x.readers) g ∙ chain_end (reverse rs))

-- past the end stand no tags
pub no_tag_past : (ps : List Past) (rs : List Reader) (ms : List Mark) (n : ℕ) → AreCells ps rs ms → length ms ≤ n → look ps rs ms n ≡ no_tag
no_tag_past ps rs ms n c h = let a = c.within in let g = fresh_past ps rs ms n (omega arith) n (omega arith) in same_tag g.0 g.1 (get_or_past ms n no_mark h)
