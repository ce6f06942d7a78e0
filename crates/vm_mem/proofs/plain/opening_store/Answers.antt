use Rattle.std.proofs.Common.{◌<◌, ◌∙◌, length, arith}
use Rattle.vm_mem.proofs.Parts.{files_more}
use Rattle.vm_mem.proofs.plain.opening_store.Goals as goal

pub loop-name-preserved : goal.loop-name-preserved
loop-name-preserved c =
    let w : c.loop-name.name-index < length c.as_slice-name-items.result.now = omega arith in
    files_more c.args.p.now c.as_slice-name-items.result.now c.loop-name.name-index c.loop-name-item.result c.loop-name.store c.put.new.self _ _ c.requires c.as_slice-name-items.ensures w c.loop-name-item.is
    (c.in_ok-name.ensures ∙ c.as_slice.ensures) (c.in_ok-text.ensures ∙ c.as_slice-in-loop-name.ensures) c.loop-name.invariant c.in_ok-put.ensures.put
