use Rattle.std.proofs.Common.{All, get_or, sym, subst}
use Rattle.jvm_model.specs.declared.program.Program.{Program}
use Rattle.test_run.specs.Running.{IsTest}
use Rattle.cone_run.proofs.ConeLists.{filled, suite_cone}
use Rattle.cone_run.proofs.cone_pool.piece_of.Goals as goal

pub run_alone-requires-clause-tests : goal.run_alone-requires-clause-tests
run_alone-requires-clause-tests g c =
    let h = suite_cone g.N.PoolName.program g.N.BookName.edges g.N.BookName.selected c.args.place c.args.list.now c.requires.suite c.requires.place c.requires.cone in
    subst (λ (q : Program). All (IsTest q) c.args.list.now) (sym c.requires.program) h.tests

pub run_alone-requires-clause-some : goal.run_alone-requires-clause-some
run_alone-requires-clause-some g c =
    filled (get_or g.N.BookName.selected c.args.place 0) c.args.list.now (suite_cone g.N.PoolName.program g.N.BookName.edges g.N.BookName.selected c.args.place c.args.list.now c.requires.suite c.requires.place c.requires.cone).own

pub run_alone-requires-clause-few : goal.run_alone-requires-clause-few
run_alone-requires-clause-few g c = (suite_cone g.N.PoolName.program g.N.BookName.edges g.N.BookName.selected c.args.place c.args.list.now c.requires.suite c.requires.place c.requires.cone).few
