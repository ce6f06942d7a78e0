use Rattle.std.proofs.Common.{◌∙◌, ◌||◌, ◌&&◌, ℕ, false, get_or, length, nat_eq, sym, ap}
use Rattle.access_tags.specs.{Given.is_given, HeadMarks.is_marked}
use Rattle.access_tags.proofs.HeadNotes.{class_more, class_same}
use Rattle.access_tags.proofs.heads.Heads.add_marked.Goals as goal
use Rattle.access_tags.proofs.heads.Heads.add_marked.Goals.{then-is_marked+in_ok-add, else-is_marked}

pub loop-class-preserved : goal.loop-class-preserved
loop-class-preserved c =
    let h = c.args.self.now in
    let t = c.args.test in
    let d = c.loop-class.class in
    let n = length c.args.reached.now.marks.items in
    let old = λ (i : ℕ). get_or c.args.reached.now.marks.items i false in
    let mid = λ (i : ℕ). get_or c.loop-class.reached.marks.items i false in
    elim c.if-is_marked.branch [
      | then-is_marked+in_ok-add w ↦ rw w.reached-is (record {
        count = w.add.ensures.count ∙ c.loop-class.invariant.count;
        has = λ i. class_more i d (is_marked h.classes h.marks t i) (is_given n i) (old i) (mid i) (get_or w.add.new.self.marks.items i false) (c.loop-class.invariant.has i)
            (λ q. ap (λ (j : ℕ). is_marked h.classes h.marks t j) q ∙ (sym c.is_marked.ensures ∙ w.if-is_marked.true))
            (w.in_ok-add.ensures.has i ∙ ap (λ (m : ℕ). mid i || (nat_eq i d && is_given m i)) c.loop-class.invariant.count);
      })
      | else-is_marked w ↦ rw w.reached-is (record {
        count = c.loop-class.invariant.count;
        has = λ i. class_same i d (is_marked h.classes h.marks t i) (is_given n i) (old i) (mid i) (c.loop-class.invariant.has i)
            (λ q. ap (λ (j : ℕ). is_marked h.classes h.marks t j) q ∙ (sym c.is_marked.ensures ∙ w.if-is_marked.false));
      })
    ]
