use Rattle.std.proofs.Common.{◌≡◌, is_some, sym, ap, ◌∙◌, subst}
use Rattle.class_pool.specs.{Pool.entry_of, PoolGrammar.IsPool}
use Rattle.class_pool.proofs.PoolFacts.{named_from_some, some_from_named, copied_some}
use Rattle.class_pool.proofs.constant_pool.Pool.entry.Goals as goal

pub returns-clause-named : goal.returns-clause-named
returns-clause-named c =
    let pool : IsPool c.args.self.now = subst IsPool c.self.view_is c.self.invariant in
    let same : is_some c.entry_at.result ≡ is_some (entry_of c.args.self.now c.args.index) =
    sym (copied_some c.entry_at.result) ∙ ap is_some c.entry_at.ensures ∙ ap (λ slots. is_some (entry_of slots c.args.index)) (c.as_slice.ensures ∙ c.self.view_is) in
    (λ s. named_from_some c.args.self.now c.args.index pool (sym same ∙ s), λ n. same ∙ some_from_named c.args.self.now c.args.index pool n)
