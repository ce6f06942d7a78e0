use Rattle.std.proofs.Common.{◌≡◌, ◌+◌, ◌-◌, ◌<◌, ◌≤◌, ℕ, List, take, length, subst, arith}
use Rattle.std.proofs.lemmas.List.{take_all}
use Rattle.access_tags.specs.declared.ended.Ended.{Ended}
use Rattle.access_tags.specs.{Followed.numbering, Ran.touched_by, Settled.reads_out_alone}
use Rattle.access_tags.proofs.FoundAll.{told_all, count_all, last_alone, marks_there}
use Rattle.access_tags.proofs.memory.TaggedMemory.alone.Goals as goal

pub returns : goal.returns
returns g c T n f i h =
    let m = c.args.self.now in
    let b = c.reads_static_alone.result in
    let told = told_all m T n f in
    let pos : 0 < n = omega arith in
    let count = count_all m T n f pos in
    let whole : take c.loop-test.test-index m.ended ≡ m.ended = take_all c.loop-test.test-index m.ended (subst (λ (xs : List Ended). length xs ≤ c.loop-test.test-index) c.as_slice-test-items.ensures c.loop-test-test.false) in
    rw c.in_ok-push-2.ensures.items (rw c.loop-test.invariant (rw whole
    (marks_there (λ (j : ℕ). reads_out_alone T (j + 1)) m.ended b (λ j x e. (told.ended j x e).alone) (last_alone m T n f b pos (c.reads_static_alone.ensures (numbering m) T (n - 1) (touched_by T n) told.stands)) i (omega arith))))
