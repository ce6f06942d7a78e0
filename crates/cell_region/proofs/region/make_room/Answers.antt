use Rattle.std.proofs.Common.{◌≡◌, ◌∷◌, [], length, take, ◌*◌, ◌≤◌, arith, ap, ◌∙◌}
use Rattle.std.proofs.lemmas.List.{length-append, length-replicate}
use Rattle.cell_region.specs.Chunks.{joined, chunk_size}
use Rattle.cell_region.proofs.Places.{kept_more, long_push}
use Rattle.cell_region.proofs.region.make_room.Goals as goal

pub returns-in_err-push-clause-kept : goal.returns-in_err-push-clause-kept
returns-in_err-push-clause-kept g c n w = ap (λ x. take n (joined x)) c.in_err-push.ensures.items ∙ c.loop.invariant.kept n w

pub loop-preserved : goal.loop-preserved
loop-preserved g c =
    let e = c.in_ok-push.ensures.items in
    let l : length c.in_ok-filled.field-0 ≡ chunk_size = rw c.in_ok-filled.ensures (length-replicate chunk_size c.args.fill) in
    let m = ap length e ∙ length-append c.loop.chunks.items (c.in_ok-filled.field-0 ∷ []) in
    record {
      long = rw e (long_push _ _ c.loop.invariant.long l);
      kept = λ n w. let more = c.loop.invariant.more in let k : n ≤ chunk_size * length c.loop.chunks.items = omega arith in
          rw e (kept_more c.args.chunks.now.items _ _ n c.loop.invariant.long k (c.loop.invariant.kept n w));
      more = let more = c.loop.invariant.more in omega arith;
      count = let n = c.loop.invariant.count in omega arith;
    }
