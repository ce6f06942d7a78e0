use Rattle.std.proofs.Common.{sym, subst}
use Rattle.electrictest.specs.Loads.{IsSuite}
use Rattle.electrictest.proofs.LoadLaws.{quieted_suite}
use Rattle.electrictest.proofs.loading.quieted.Goals as goal

pub returns-clause-suite : goal.returns-clause-suite
returns-clause-suite c =
    let l = c.args.loaded in
    subst (λ p. IsSuite (record { checked = p; names = l.names; prints = record { digest = l.prints.eager; suite = l.prints.suite; classes = l.prints.classes; eager = l.prints.eager } }))
    (sym c.in_ok-program.ensures.0) (quieted_suite l c.requires.suite)
