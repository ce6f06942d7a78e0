-- The tags after marks and pasts of a range of locations were filled.
use Rattle.std.proofs.Common.{◌≡◌, ℕ, ◌<◌, ◌≤◌, true, false, not, Bool, List, get_or, reverse, refl, sym, ◌∙◌, ap, arith, inl, inr}
use Rattle.std.proofs.lemmas.Bool.{cases_lt, and_parts}
use Rattle.cell_region.specs.Chunks.{IsFilled}
use Rattle.access_tags.specs.declared.mark.{Mark.Mark, Past.Past, Reader.Reader}
use Rattle.access_tags.specs.Tag.{Tag, ended, is_new, noted, no_mark, with_changed, made_tag}
use Rattle.access_tags.specs.Cells.{chain, look, no_past, tag_by, AreCells}
use Rattle.access_tags.proofs.{Chains.chain_end, Settle.past, Settle.same_tag, Written.changed_in}

abbrev pub wrote : Mark
wrote = record { exposed = false; written = true }

-- the running test wrote all of a range, and touched none before
pub written_all : (ps : List Past) (rs : List Reader) (ms ns : List Mark) (first end l : ℕ) → IsFilled ms ns first end wrote → ((k : ℕ) → first ≤ k → k < end → is_new (look ps rs ms k).mark ≡ true)
    → look ps rs ns l ≡ with_changed (noted true) (look ps rs ms) first end l
written_all ps rs ms ns first end l q new = changed_in (noted true) (look ps rs ms) (look ps rs ns) first end l
    (λ a b. with_mark (q.inside l no_mark a b ∙ none (get_or ms l no_mark) (new l a b)))
    (λ o. with_mark (q.outside l no_mark o))
  where
    with_mark : {m : Mark} → get_or ns l no_mark ≡ m → look ps rs ns l ≡ tag_by (get_or ps l no_past) (reverse rs) m
    with_mark e = ap (λ (m : Mark). tag_by (get_or ps l no_past) (reverse rs) m) e

    none : (m : Mark) → is_new m ≡ true → wrote ≡ record { exposed = m.exposed; written = true }
    none m e = let x = (and_parts (not m.exposed) (not m.written) e).0 in ap (λ (b : Bool). record { exposed = b; written = true }) (sym (off m.exposed x))
      where
        off : (b : Bool) → not b ≡ true → b ≡ false
        off false q = refl
        off true q = absurd (cc)

pub marks_cells : (ps : List Past) (rs : List Reader) (ms ns : List Mark) (first end : ℕ) (m : Mark) → IsFilled ms ns first end m → AreCells ps rs ms → AreCells ps rs ns
marks_cells ps rs ms ns first end m q c = let a = c.within in let e = q.length in record { within = omega arith; down = c.down; below = c.below; few = c.few }

-- the test ended, and all of the range is made by it
module _ (ps qs : List Past) (rs : List Reader) (ms ns : List Mark) (first end t : ℕ) (p : IsFilled ps qs first end (past t 0)) (q : IsFilled ms ns first end no_mark) where
  pub ended_all : (l : ℕ) → ((k : ℕ) → first ≤ k → k < end → look ps rs ms k ≡ made_tag) → look qs rs ns l ≡ with_changed (ended t) (look ps rs ms) first end l
  ended_all l made = changed_in (ended t) (look ps rs ms) (look qs rs ns) first end l
      (λ a b. let g = p.inside l no_past a b in same_tag (ap (λ (x : Past). x.writer) g) (ap (λ (x : Past). chain (reverse rs) x.readers) g ∙ chain_end (reverse rs)) (q.inside l no_mark a b) ∙ ap (λ (g : Tag). ended t g) (sym (made l a b)))
      (λ o. let g = p.outside l no_past o in same_tag (ap (λ (x : Past). x.writer) g) (ap (λ (x : Past). chain (reverse rs) x.readers) g) (q.outside l no_mark o))

  pub ended_cells : AreCells ps rs ms → AreCells qs rs ns
  ended_cells c = let a = c.within in let e = p.length in let f = q.length in record {
    within = omega arith;
    down = c.down;
    below = λ i. elim (cases_lt i first) [
      | inl a ↦ let g = ap (λ (x : Past). x.readers) (p.outside i no_past (inl a)) in let k = c.below i in omega arith
      | inr a ↦ elim (cases_lt i end) [
        | inl b ↦ let g = ap (λ (x : Past). x.readers) (p.inside i no_past a b) in omega arith
        | inr b ↦ let g = ap (λ (x : Past). x.readers) (p.outside i no_past (inr b)) in let k = c.below i in omega arith
      ]
    ];
    few = c.few;
  }

-- a location that the running test made
pub made_there : {x : Past} {m : Mark} (rs : List Reader) → x ≡ no_past → m ≡ wrote → tag_by x rs m ≡ made_tag
made_there rs e f = same_tag (ap (λ (x : Past). x.writer) e) (ap (λ (x : Past). chain rs x.readers) e ∙ chain_end rs) f
