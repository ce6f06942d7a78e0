use Rattle.std.proofs.Common.{sym, ◌∙◌}
use Rattle.indexmap.specs.IndexMap.{keys}
use Rattle.member_lookup.specs.Walks.{is_kept}
use Rattle.member_lookup.proofs.Lookups.{second_kept}
use Rattle.member_lookup.proofs.lookup.one_or_first.Goals as goal

pub returns-then-is_some : goal.returns-then-is_some
returns-then-is_some c =
    c.copied.ensures ∙ c.first.ensures.value
    ∙ second_kept (λ m. is_kept c.args.p.now (keys c.args.above.now) m) c.args.methods.now c.loop-method.method-index _ c.loop-method-test.true c.loop-method.invariant c.if-is_some.ensures (sym c.if-is_kept.ensures)
