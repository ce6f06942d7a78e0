use Rattle.std.proofs.Common.{ℕ, List, length, refl, ap, arith}
use Rattle.std.proofs.lemmas.Result.{IfOk-weaker}
use Rattle.cone_run.specs.Cones.{IsConeSuite}
use Rattle.cone_run.proofs.ConeLists.{all_short, few_selected}
use Rattle.cone_run.proofs.cone_pool.cones.Goals as goal

pub overflow_cast-sel : goal.overflow_cast-sel
overflow_cast-sel g c =
    let suite : IsConeSuite c.args.p.now c.args.g.now c.args.sel.now = record { typed = c.program-program.ensures.typed; recorded = c.requires.record; tests = c.requires.tests; ascending = c.requires.once } in
    let few = few_selected c.args.p.now c.args.g.now c.args.sel.now suite in
    omega (arith, few)

pub run_cones-requires-clause-suite : goal.run_cones-requires-clause-suite
run_cones-requires-clause-suite g c κs within =
    let suite : IsConeSuite c.args.p.now c.args.g.now c.args.sel.now = record { typed = c.program-program.ensures.typed; recorded = c.requires.record; tests = c.requires.tests; ascending = c.requires.once } in
    suite

pub run_cones-requires-clause-workers : goal.run_cones-requires-clause-workers
run_cones-requires-clause-workers g c κs within =
    let same = ap (λ (l : List (List ℕ)). length l) c.as_slice.ensures in
    (refl, omega (arith, same, c.in_ok-shares.ensures.many, c.requires.workers.1))

pub returns-clause-short : goal.returns-clause-short
returns-clause-short g c =
    let suite : IsConeSuite c.args.p.now c.args.g.now c.args.sel.now = record { typed = c.program-program.ensures.typed; recorded = c.requires.record; tests = c.requires.tests; ascending = c.requires.once } in
    IfOk-weaker c.run_cones.result _ _ (λ xs h. all_short c.args.p.now c.args.g.now c.args.sel.now xs suite h) c.run_cones.ensures.pieces
