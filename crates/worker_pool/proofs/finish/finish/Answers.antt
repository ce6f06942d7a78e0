use Rattle.std.proofs.Common.{◌∙◌, ℕ, List, ap, sym, subst}
use Rattle.jvm_model.specs.declared.program.Program.{Program}
use Rattle.run_core.specs.Run.{Run}
use Rattle.worker_pool.specs.Plans.{HaveTests}
use Rattle.worker_pool.proofs.Ends.{fewer_left}
use Rattle.worker_pool.proofs.finish.finish.Goals as goal

pub advance-requires-clause-tests : goal.advance-requires-clause-tests
advance-requires-clause-tests g c =
    let i = c.loop-alloc.invariant in
    subst (λ (p : Program). HaveTests p c.loop-alloc.core.chains) (sym i.0) (subst (λ (z : List (List ℕ)). HaveTests c.args.core.program z) (sym i.1) c.requires.tests)

pub loop-alloc-preserved : goal.loop-alloc-preserved
loop-alloc-preserved g c =
    let i = c.loop-alloc.invariant in
    let same = c.in_ok-advance.ensures.adds.1 in (
      ap (λ (z : Run). z.program) same ∙ i.0,
      ap (λ (z : Run). z.chains) same ∙ i.1,
      ap (λ (z : Run). z.workers) same ∙ i.2,
    )

pub loop-alloc-smaller : goal.loop-alloc-smaller
loop-alloc-smaller g c = fewer_left c.loop-alloc.core c.advance.new.core c.in_ok-advance.ensures.adds c.history-events.ensures.few

pub returns-clause-whole : goal.returns-clause-whole
returns-clause-whole g c = (c.history-events-2.ensures.legal, c.is_complete.ensures.0 c.loop-alloc-test.false)
