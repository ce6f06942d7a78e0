use Rattle.std.proofs.Common.{◌≡◌, ℕ, ◌<◌, ◌+◌, ◌-◌, get_or, length, arith, inl, inr, sym, subst, ◌∙◌}
use Rattle.std.proofs.lemmas.Bool.{cases_lt}
use Rattle.access_tags.specs.Tag.{no_mark}
use Rattle.access_tags.proofs.cells.are_marked.Goals as goal

pub loop-at-preserved : goal.loop-at-preserved
loop-at-preserved c k a b = elim (cases_lt k c.loop-at.at) [
  | inl l ↦ c.loop-at.invariant k a l
  | inr l ↦
      let i = k - c.loop-at.at in
      let e : c.loop-at.at + i ≡ k = omega arith in
      let there : i < length c.run-run.result.now = omega arith in
      subst (λ (n : ℕ). get_or c.args.marks.now n no_mark ≡ c.args.mark) e (sym (c.run-run.ensures.cells.cells i no_mark there) ∙ c.all_are.ensures c.if-not-all_are.false i there)
]
