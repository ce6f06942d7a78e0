use Rattle.std.proofs.Common.{ℕ, ◌+◌, List, sum, sym, ap, ◌∙◌}
use Rattle.access_tags.specs.declared.memory.TaggedMemory.{TaggedMemory}
use Rattle.detect_run.proofs.Detected.{own_run_lent}
use Rattle.detect_run.proofs.detection.record_on.Goals as goal

pub edges_recorded-requires-clause-program : goal.edges_recorded-requires-clause-program
edges_recorded-requires-clause-program g c = ap (λ (m : TaggedMemory 0). m.memory.program) c.memory.ensures.lent ∙ (c.memory.ensures.of ∙ c.in_ok-units.ensures.program)

pub edges_recorded-requires-clause-ran : goal.edges_recorded-requires-clause-ran
edges_recorded-requires-clause-ran g c = own_run_lent _ _ c.args.p.now c.in_ok-units.units _ _ c.memory.ensures.lent c.in_ok-units.ensures.ran

pub returns-clause-counted : goal.returns-clause-counted
returns-clause-counted g c = c.in_ok-units.ensures.counted ∙ ap (λ (us : List ℕ). c.args.steps.now + sum us) (sym c.in_ok-found.ensures.units)
