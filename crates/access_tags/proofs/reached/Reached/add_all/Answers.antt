use Rattle.std.proofs.Common.{◌∙◌, false, get_or, length, arith}
use Rattle.access_tags.proofs.Closing.{add_more}
use Rattle.access_tags.proofs.reached.Reached.add_all.Goals as goal

pub loop-class-preserved : goal.loop-class-preserved
loop-class-preserved c = record {
  count = c.add.ensures.count ∙ c.loop-class.invariant.count;
  has = λ i. add_more c.args.classes.now c.loop-class.class-index (length c.args.self.now.marks.items) (length c.loop-class.self.marks.items) i _ (get_or c.args.self.now.marks.items i false) (get_or c.loop-class.self.marks.items i false)
      (get_or c.add.new.self.marks.items i false) c.loop-class-test.true c.loop-class.invariant.count (c.loop-class.invariant.has i) (c.in_ok-add.ensures.has i);
  first = λ k h. let m = c.loop-class.invariant.more in c.in_ok-add.ensures.first k (omega arith) ∙ c.loop-class.invariant.first k h;
  more = let a = c.loop-class.invariant.more in let b = c.in_ok-add.ensures.more in omega arith;
}
