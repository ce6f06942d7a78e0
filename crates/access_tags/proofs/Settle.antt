-- The tags after a change at one location.
use Rattle.std.proofs.Common.{◌≡◌, ℕ, zero, suc, ◌+◌, ◌-◌, ◌^◌, ◌<◌, ◌≤◌, Bool, true, false, cond, List, [], ◌∷◌, ◌++◌, length, get_or, set, reverse, refl, sym, ◌∙◌, ap, arith, nat_eq, inl, inr}
use Rattle.std.proofs.lemmas.Bool.{cases_Bool, cases_eq, eqb-true, eqb-false}
use Rattle.std.proofs.lemmas.List.{get_or-set_other, length-set, length-reverse, reverse-append, length-append}
use Rattle.std.proofs.lemmas.Grind.{get_or-set_at}
use Rattle.access_tags.specs.declared.mark.{Mark.Mark, Past.Past, Reader.Reader}
use Rattle.access_tags.specs.Tag.{Tag, ended, marked, noted, no_mark}
use Rattle.access_tags.specs.Cells.{chain, look, no_past, no_reader, AreDown, AreCells, IsLinked}
use Rattle.access_tags.proofs.Chains.{chain_lower, chain_step, chain_top, chain_end}

abbrev pub tag_with : ℕ → List ℕ → Mark → Tag
tag_with w r m = record { writer = w; readers = r; mark = m }

pub same_tag : {w w' : ℕ} {r r' : List ℕ} {m m' : Mark} → w ≡ w' → r ≡ r' → m ≡ m' → tag_with w r m ≡ tag_with w' r' m'
same_tag {w} {w'} {r} {r'} {m} {m'} p q s = ap (λ (x : ℕ). tag_with x r m) p ∙ (ap (λ (x : List ℕ). tag_with w' x m) q ∙ ap (λ (x : Mark). tag_with w' r' x) s)

yes : {A : Type 0} {b : Bool} (x y : A) → b ≡ true → cond b x y ≡ x
yes x y e = rw e

no : {A : Type 0} {b : Bool} (x y : A) → b ≡ false → cond b x y ≡ y
no x y e = rw e

-- the mark after the test ended, from a mark that is taken first
abbrev pub past : ℕ → ℕ → Past
past w r = record { writer = w; readers = r }

abbrev pub reader : ℕ → ℕ → Reader
reader t n = record { test = t; next = n }

-- another location
same_past : (rs : List Reader) (ms ms' : List Mark) (l l' : ℕ) (x y : Past) → x ≡ y → get_or ms l no_mark ≡ get_or ms' l' no_mark → tag_with x.writer (chain rs x.readers) (get_or ms l no_mark) ≡ tag_with y.writer (chain rs y.readers) (get_or ms' l' no_mark)
same_past rs ms ms' l l' x y e f = ap (λ (z : Past). tag_with z.writer (chain rs z.readers) (get_or ms l no_mark)) e ∙ ap (λ (m : Mark). tag_with y.writer (chain rs y.readers) m) f

pub written_look : (ps : List Past) (rs : List Reader) (ms : List Mark) (at t l : ℕ) → at < length ps → at < length ms → (get_or ms at no_mark).written ≡ true →
    look (set ps at (past t 0)) rs (set ms at no_mark) l ≡ cond (nat_eq l at) (ended t (look ps rs ms at)) (look ps rs ms l)
written_look ps rs ms at t l k h w = let x = past t 0 in elim (cases_Bool (nat_eq l at)) [
  | inl e ↦ let q = eqb-true l at e in let g = get_or-set_at ps at l x no_past q k in rw e (same_tag
      (ap (λ (y : Past). y.writer) g ∙ sym (yes t (get_or ps at no_past).writer w))
      (ap (λ (y : Past). chain (reverse rs) y.readers) g ∙ (chain_end (reverse rs) ∙ sym (yes [] (cond (get_or ms at no_mark).exposed (t ∷ chain (reverse rs) (get_or ps at no_past).readers) (chain (reverse rs) (get_or ps at no_past).readers)) w)))
      (get_or-set_at ms at l no_mark no_mark q h))
  | inr e ↦ rw e (same_past (reverse rs) (set ms at no_mark) ms l l (get_or (set ps at x) l no_past) (get_or ps l no_past) (get_or-set_other ps at l x no_past (eqb-false l at e)) (get_or-set_other ms at l no_mark no_mark (eqb-false l at e)))
]

pub exposed_look : (ps : List Past) (rs rs' : List Reader) (ms : List Mark) (at t n l : ℕ) → AreCells ps rs ms → at < length ps → at < length ms → IsLinked rs (reader t (get_or ps at no_past).readers) rs' n → (get_or ms at no_mark).written ≡ false → (get_or ms at no_mark).exposed ≡ true →
    look (set ps at (past (get_or ps at no_past).writer n)) rs' (set ms at no_mark) l ≡ cond (nat_eq l at) (ended t (look ps rs ms at)) (look ps rs ms l)
exposed_look ps rs rs' ms at t n l c k h j w x = let v = past (get_or ps at no_past).writer n in elim (cases_Bool (nat_eq l at)) [
  | inl e ↦ let q = eqb-true l at e in let g = get_or-set_at ps at l v no_past q k in rw e (same_tag
      (ap (λ (y : Past). y.writer) g ∙ sym (no t (get_or ps at no_past).writer w))
      (ap (λ (y : Past). chain (reverse rs') y.readers) g ∙ (j.given ∙ sym (no [] _ w ∙ yes _ _ x)))
      (get_or-set_at ms at l no_mark no_mark q h))
  | inr e ↦ let d = eqb-false l at e in let g = get_or-set_other ps at l v no_past d in rw e (same_tag
      (ap (λ (y : Past). y.writer) g)
      (ap (λ (y : Past). chain (reverse rs') y.readers) g ∙ j.kept (get_or ps l no_past).readers (c.below l))
      (get_or-set_other ms at l no_mark no_mark d))
]

pub clear_look : (ps : List Past) (rs : List Reader) (ms : List Mark) (at t l : ℕ) → at < length ms → (get_or ms at no_mark).written ≡ false → (get_or ms at no_mark).exposed ≡ false →
    look ps rs (set ms at no_mark) l ≡ cond (nat_eq l at) (ended t (look ps rs ms at)) (look ps rs ms l)
clear_look ps rs ms at t l h w x = elim (cases_Bool (nat_eq l at)) [
  | inl e ↦ let q = eqb-true l at e in rw e (same_tag
      (ap (λ (i : ℕ). (get_or ps i no_past).writer) q ∙ sym (no t (get_or ps at no_past).writer w))
      (ap (λ (i : ℕ). chain (reverse rs) (get_or ps i no_past).readers) q ∙ sym (no [] _ w ∙ no _ _ x))
      (get_or-set_at ms at l no_mark no_mark q h))
  | inr e ↦ rw e (same_tag refl refl (get_or-set_other ms at l no_mark no_mark (eqb-false l at e)))
]

pub marked_look : (ps : List Past) (rs : List Reader) (ms : List Mark) (at l : ℕ) (write : Bool) → at < length ms →
    look ps rs (set ms at (marked write (get_or ms at no_mark))) l ≡ cond (nat_eq l at) (noted write (look ps rs ms at)) (look ps rs ms l)
marked_look ps rs ms at l write h = let m = marked write (get_or ms at no_mark) in elim (cases_Bool (nat_eq l at)) [
  | inl e ↦ let q = eqb-true l at e in rw e (same_tag (ap (λ (i : ℕ). (get_or ps i no_past).writer) q) (ap (λ (i : ℕ). chain (reverse rs) (get_or ps i no_past).readers) q) (get_or-set_at ms at l m no_mark q h))
  | inr e ↦ rw e (same_tag refl refl (get_or-set_other ms at l m no_mark (eqb-false l at e)))
]

-- what stays true of the lists
pub marked_cells : (ps : List Past) (rs : List Reader) (ms : List Mark) (at : ℕ) (m : Mark) → AreCells ps rs ms → AreCells ps rs (set ms at m)
marked_cells ps rs ms at m c = let a = c.within in let e = length-set ms at m in record { within = omega arith; down = c.down; below = c.below; few = c.few }

below_set : (ps : List Past) (at n : ℕ) (v : Past) → at < length ps → v.readers ≤ n → ((i : ℕ) → (get_or ps i no_past).readers ≤ n) → (i : ℕ) → (get_or (set ps at v) i no_past).readers ≤ n
below_set ps at n v h low f i = elim (cases_eq i at) [
  | inl e ↦ let g = ap (λ (y : Past). y.readers) (get_or-set_at ps at i v no_past e h) in omega arith
  | inr d ↦ let g = ap (λ (y : Past). y.readers) (get_or-set_other ps at i v no_past d) in let k = f i in omega arith
]

pub written_cells : (ps : List Past) (rs : List Reader) (ms : List Mark) (at t : ℕ) (m : Mark) → AreCells ps rs ms → at < length ps → AreCells (set ps at (past t 0)) rs (set ms at m)
written_cells ps rs ms at t m c h = let a = c.within in let e = length-set ms at m in let f = length-set ps at (past t 0) in
    record { within = omega arith; down = c.down; below = below_set ps at (length rs) (past t 0) h (omega arith) c.below; few = c.few }

down_in : (rs : List Reader) (r : Reader) (n : ℕ) → r.next ≤ n + length rs → ((k : ℕ) → (get_or rs k no_reader).next ≤ n + k) → (k : ℕ) → (get_or (rs ++ r ∷ []) k no_reader).next ≤ n + k
down_in [] r n low f zero = omega arith
down_in [] r n low f (suc k) = omega arith
down_in (x ∷ rs) r n low f zero = f 0
down_in (x ∷ rs) r n low f (suc k) = let g = down_in rs r (n + 1) (omega arith) (λ i. let h = f (suc i) in omega arith) k in omega arith

down_more : (rs : List Reader) (r : Reader) → r.next ≤ length rs → AreDown rs → AreDown (rs ++ r ∷ [])
down_more rs r low f k = let g = down_in rs r 0 (omega arith) (λ i. let h = f i in omega arith) k in omega arith

pub exposed_cells : (ps : List Past) (rs rs' : List Reader) (ms : List Mark) (at w n : ℕ) (r : Reader) (m : Mark) → AreCells ps rs ms → at < length ps → IsLinked rs r rs' n → AreCells (set ps at (past w n)) rs' (set ms at m)
exposed_cells ps rs rs' ms at w n r m c h j = let a = c.within in let e = length-set ms at m in let f = length-set ps at (past w n) in let k = j.more in record {
  within = omega arith;
  down = j.down;
  below = below_set ps at (length rs') (past w n) h j.within (λ i. let g = c.below i in omega arith);
  few = j.few;
}

-- a reader that joins the others, and one that is their last
pub linked_new : (rs : List Reader) (r : Reader) → AreDown rs → r.next ≤ length rs → length rs + 1 < 2 ^ 32 → IsLinked rs r (rs ++ r ∷ []) (length rs + 1)
linked_new rs r w h few =
    let z : reverse (rs ++ r ∷ []) ≡ r ∷ reverse rs = reverse-append rs (r ∷ []) in
    let k = length-reverse rs in
    let y = length-append rs (r ∷ []) in
    let top : length rs + 1 ≡ suc (length (reverse rs)) = omega arith in record {
      given = ap (λ (ys : List Reader). chain ys (length rs + 1)) z ∙ (ap (λ (i : ℕ). chain (r ∷ reverse rs) i) top ∙ chain_top r (reverse rs));
      kept = λ at l. ap (λ (ys : List Reader). chain ys at) z ∙ chain_lower r (reverse rs) at (omega arith);
      down = down_more rs r h w;
      within = omega arith;
      more = omega arith;
      few = omega arith;
    }

pub linked_last : (rs : List Reader) (r : Reader) → AreDown rs → 0 < length rs → r ≡ get_or rs (length rs - 1) r → length rs < 2 ^ 32 → IsLinked rs r rs (length rs)
linked_last rs r w o e few = record { given = (chain_step rs (length rs) r w o (omega arith) e).1; kept = λ at l. refl; down = w; within = omega arith; more = omega arith; few = few }
