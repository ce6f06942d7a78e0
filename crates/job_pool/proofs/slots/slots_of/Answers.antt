use Rattle.std.proofs.Common.{◌∙◌, ◌<◌, ℕ, List, length, sym, subst, arith}
use Rattle.job_pool.proofs.slots.slots_of.Goals as goal

pub new-requires-clause-short : goal.new-requires-clause-short
new-requires-clause-short g c =
    let k = c.index-lists-index in
    subst (λ (l : List ℕ). length l < 4294967296) (sym (c.as_slice-numbers.ensures ∙ k.is)) (c.requires.short c.loop-index.index k.result (omega arith))
