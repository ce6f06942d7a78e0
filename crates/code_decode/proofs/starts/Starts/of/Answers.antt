use Rattle.std.proofs.Common.{◌≡◌, ◌++◌, ◌∷◌, [], ◌+◌, ◌∙◌, take, sym, ap}
use Rattle.std.proofs.lemmas.List.{take_more}
use Rattle.code_decode.proofs.Marking.{marks_step}
use Rattle.code_decode.proofs.starts.Starts.of.Goals as goal

pub loop-op-preserved : goal.loop-op-preserved
loop-op-preserved c =
    let e : take (c.loop-op.op-index + 1) c.args.ops.now ≡ take c.loop-op.op-index c.args.ops.now ++ c.op-item.result ∷ [] =
    take_more c.args.ops.now c.loop-op.op-index c.op-item.result c.loop-op-test.true ∙ ap (λ x. take c.loop-op.op-index c.args.ops.now ++ x ∷ []) (sym c.op-item.is) in
    rw (e, c.mark.ensures) (marks_step c.loop-op.marks.items (take c.loop-op.op-index c.args.ops.now) c.op-item.result c.args.total c.loop-op.invariant)
