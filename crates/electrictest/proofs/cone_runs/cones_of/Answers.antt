use Rattle.std.proofs.Common.{ℕ, sym, subst}
use Rattle.order_law.specs.Conflicts.{Member}
use Rattle.dep_graph.proofs.Form.{ordered_at}
use Rattle.cone_run.proofs.Pairs.{paired_length}
use Rattle.electrictest.specs.{ConeRuns.ConesRefused, Records.beginning}
use Rattle.electrictest.proofs.ConeReplies.{selected_tests, selected_numbers, few_selected, cones_status, same_fault}
use Rattle.electrictest.proofs.cone_runs.cones_of.Goals as goal

pub cones-requires-clause-record : goal.cones-requires-clause-record
cones-requires-clause-record g c κs within =
    let r = c.args.begun.now.record in
    (ordered_at r.units r.edges r.form _ _ (sym c.requires.units) c.in_ok-graph.ensures).go_up

pub cones-requires-clause-tests : goal.cones-requires-clause-tests
cones-requires-clause-tests g c κs within =
    rw c.as_slice-tests.ensures (selected_tests c.args.loaded.now.checked c.args.begun.now.tests c.in_ok-tests.tests (rw c.as_slice.ensures at c.in_ok-tests.ensures) c.requires.tests)

pub cones_text-requires-clause-few : goal.cones_text-requires-clause-few
cones_text-requires-clause-few g c =
    rw c.as_slice-tests.ensures (few_selected c.args.loaded.now.checked c.args.begun.now.tests c.in_ok-tests.tests (rw c.as_slice.ensures at c.in_ok-tests.ensures) c.requires.tests c.requires.suite.few)

pub cones_text-requires-clause-each : goal.cones_text-requires-clause-each
cones_text-requires-clause-each g c = rw c.as_slice-pieces.ensures (paired_length c.in-Ok.ensures.cones)

pub cones_text-requires-clause-numbers : goal.cones_text-requires-clause-numbers
cones_text-requires-clause-numbers g c =
    rw c.as_slice-tests.ensures (selected_numbers c.args.loaded.now.checked c.args.begun.now.tests c.in_ok-tests.tests (rw c.as_slice.ensures at c.in_ok-tests.ensures) c.requires.tests)

pub returns-clause-refused : goal.returns-clause-refused
returns-clause-refused g c =
    let l = c.args.loaded.now in
    let b = beginning c.args.begun.now in
    let once = rw c.as_slice.ensures at c.in_ok-tests.ensures in
    subst (ConesRefused l b (λ (t : ℕ). Member t b.tests)) (sym c.in_ok-status-in-Err.ensures)
    (cones_status l b (λ (t : ℕ). Member t b.tests) c.in-Err.fault
    (same_fault l.checked b.said.edges (λ (t : ℕ). Member t c.in_ok-tests.tests) (λ (t : ℕ). Member t b.tests) c.in-Err.fault (λ t. once.exact t)
    (rw (c.in_ok-graph.ensures, c.as_slice-tests.ensures) at c.in-Err.ensures.fault)))
