use Rattle.std.proofs.Common.{◌≡◌, ◌∙◌, length, refl, sym, arith}
use Rattle.access_tags.proofs.Ending.{opened}
use Rattle.access_tags.proofs.memory.TaggedMemory.opening.Goals as goal

pub returns-clause-follows : goal.returns-clause-follows
returns-clause-follows g c =
    let p = c.args.p.now in
    let e = c.new-3.ensures.classes in let n = c.len.ensures in
    let h : c.new-3.result.classes ≡ length c.args.p.now.classes = omega arith in
    opened p _ c.in_ok-memory.ensures.world c.in_ok-memory.ensures.program c.in_ok-numbers.ensures.statics c.in_ok-numbers.ensures.bases (c.in_ok-numbers.ensures.layouts ∙ sym c.in_ok-numbers.ensures.places) c.in_ok-numbers.ensures.places h
    c.in_ok-tags.ensures.cells c.in_ok-tags.ensures.named c.new.ensures c.new-4.ensures refl
    c.in_ok-tags.ensures.stands c.new-2.ensures c.new-3.ensures.stands
