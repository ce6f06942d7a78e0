use Rattle.std.proofs.Common.{◌≡◌, ◌+◌, ◌∷◌, [], length, ap, ◌∙◌, arith, length-append}
use Rattle.vm_heap.proofs.Entries.{covered_more}
use Rattle.vm_heap.proofs.headers.cover.Goals as goal

pub loop-alloc-preserved : goal.loop-alloc-preserved
loop-alloc-preserved c =
    let more = c.loop-alloc.invariant.more in
    let test = c.loop-alloc-test.true in
    let l : length c.push.new.self.items ≡ length c.loop-alloc.texts.items + 1 = ap length c.in_ok-push.ensures.items ∙ length-append c.loop-alloc.texts.items (c.new.result ∷ []) in
    record {
      covered = covered_more c.args.texts.now.items c.loop-alloc.texts.items c.push.new.self.items c.new.result c.in_ok-push.ensures.items c.new.ensures more c.loop-alloc.invariant.covered;
      more = omega arith;
      within = λ n a b. omega arith;
    }
