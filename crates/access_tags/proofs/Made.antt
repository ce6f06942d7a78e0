-- A test ended at the parts of an interval, all of which it made.
use Rattle.std.proofs.Common.{◌≡◌, ℕ, zero, suc, ◌+◌, ◌-◌, ◌<◌, ◌≤◌, false, [], ◌∷◌, refl, sym, ◌∙◌, ap, subst, arith}
use Rattle.access_tags.specs.declared.{interval.Interval.Interval, table.Table.Table}
use Rattle.access_tags.specs.Tag.{Tag, ended, with_changed, made_tag}
use Rattle.access_tags.specs.{HaveEnded.HaveEnded, Intervals.part_at, Intervals.parts_of, Intervals.parts_to, Intervals.spot_in}
use Rattle.access_tags.specs.Numbering.{is_name}
use Rattle.access_tags.proofs.Parted.{counted_fresh, ended_first, ended_one, ended_to}
use Rattle.access_tags.proofs.Written.{changed_none, changed_more, changed_past}

module _ (t : ℕ) (c d : ℕ → Tag) (a : Table) (s : Interval) (named : (i : ℕ) → is_name (spot_in s.sort s.object i) ≡ false) (made : (i : ℕ) → s.first ≤ i → i < s.end → c (s.at + (i - s.first)) ≡ made_tag) where
  -- with those of so many parts changed
  abbrev to : ℕ → ℕ → Tag
  to k = with_changed (ended t) c s.at (s.at + k)

  one_made : (k : ℕ) → s.first + k < s.end → HaveEnded t (to k) d (to (k + 1)) d a a (part_at s (s.first + k) ∷ [])
  one_made k h =
      let i = s.first + k in
      let at = s.at + (i - s.first) in
      let e : to k at ≡ made_tag = changed_past (ended t) c s.at k at (omega arith) ∙ made i (omega arith) h in
      ended_one t (to k) d (to (k + 1)) d a a (part_at s i) (λ l. rw (named i) (changed_more (ended t) c s.at k at l (omega arith))) (λ l. rw (named i) refl)
      (rw (named i) (counted_fresh a (spot_in s.sort s.object i) (to k at) (ap (λ (g : Tag). g.writer) e) (ap (λ (g : Tag). g.readers) e)))

  made_to : (k : ℕ) → s.first + k ≤ s.end → HaveEnded t c d (to k) d a a (parts_to s (s.first + k))
  made_to zero h =
      let i : s.first ≡ s.first + 0 = omega arith in
      let same : c ≡ to 0 = λ j l. sym (changed_none (ended t) c s.at l) j in
      subst (λ (f : ℕ → Tag). HaveEnded t c d f d a a (parts_to s (s.first + 0))) same (subst (λ (n : ℕ). HaveEnded t c d c d a a (parts_to s n)) i (ended_first t c d a s))
  made_to (suc k) h =
      let i : s.first + k + 1 ≡ s.first + suc k = omega arith in
      let n : k + 1 ≡ suc k = omega arith in
      subst (λ (m : ℕ). HaveEnded t c d (to m) d a a (parts_to s (s.first + suc k))) n
      (subst (λ (m : ℕ). HaveEnded t c d (to (k + 1)) d a a (parts_to s m)) i
      (ended_to t c d (to k) d (to (k + 1)) d a a a s (s.first + k) (omega arith) (made_to k (omega arith)) (one_made k (omega arith))))

  pub made_ended : (e : ℕ → Tag) → s.first ≤ s.end → ((l : ℕ) → e l ≡ with_changed (ended t) c s.at (s.at + (s.end - s.first)) l) → HaveEnded t c d e d a a (parts_of s)
  made_ended e h g =
      let m = s.end - s.first in
      let i : s.first + m ≡ s.end = omega arith in
      let same : to m ≡ e = λ j l. sym (g l) j in
      subst (λ (f : ℕ → Tag). HaveEnded t c d f d a a (parts_of s)) same (subst (λ (n : ℕ). HaveEnded t c d (to m) d a a (parts_to s n)) i (made_to m (omega arith)))
