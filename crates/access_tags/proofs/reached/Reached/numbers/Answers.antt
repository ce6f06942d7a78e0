use Rattle.std.proofs.Common.{◌-◌, ◌∙◌, ◌<◌, false, length, refl, sym, arith}
use Rattle.std.proofs.lemmas.List.{get_or_default}
use Rattle.access_tags.proofs.Ascending.{ascend_more, numbers_below, numbers_more, numbers_same}
use Rattle.access_tags.proofs.reached.Reached.numbers.Goals as goal
use Rattle.access_tags.proofs.reached.Reached.numbers.Goals.{then-index+in_ok-push, else-index}

pub loop-class-preserved : goal.loop-class-preserved
loop-class-preserved c =
    let ms = c.args.self.now.marks.items in
    let class = c.loop-class.class in
    let xs = c.loop-class.numbers in
    let there : class < length ms = omega (arith, c.loop-class-test.true, c.len-class-end.ensures) in
    let read = get_or_default ms class false c.index.result.now there ∙ sym c.index.ensures in
    elim c.if-index.branch [
      | then-index+in_ok-push w ↦ rw w.numbers-is (rw w.in_ok-push.ensures.pushed (record {
        ascending = ascend_more xs (class - 31) c.loop-class.invariant.ascending (numbers_below ms class xs c.loop-class.invariant.numbers (class - 31) refl c.loop-class.auto.class);
        numbers = numbers_more ms class xs c.loop-class.invariant.numbers (class - 31) refl c.loop-class.auto.class (read ∙ w.if-index.true);
      }))
      | else-index w ↦ rw w.numbers-is (record {
        ascending = c.loop-class.invariant.ascending;
        numbers = numbers_same ms class xs c.loop-class.invariant.numbers (read ∙ w.if-index.false);
      })
    ]
