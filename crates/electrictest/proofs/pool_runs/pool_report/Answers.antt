use Rattle.std.proofs.Common.{◌≡◌, ℕ, List, [], ◌++◌, length, cond, Some, ap, ◌∙◌, subst}
use Rattle.run_core.specs.Run.{history}
use Rattle.worker_pool.specs.Plans.{units_of}
use Rattle.electrictest.specs.{Logs.log_text, PoolRuns.IsPoolReport, Records.beginning, Tallies.report_text}
use Rattle.electrictest.proofs.{ChosenLaws.few_tests, PoolLaws.all_posted, PoolLaws.pool_reported}
use Rattle.electrictest.proofs.pool_runs.pool_report.Goals as goal

pub tally_of-requires-clause-few : goal.tally_of-requires-clause-few
tally_of-requires-clause-few c =
    let h = c.requires.pooled in
    rw c.as_slice-tests.ensures (few_tests c.args.loaded.now.checked c.args.pooled.now.chosen.set h.chosen.closure.ascending h.tests c.requires.few)

pub tally_of-requires-clause-numbers : goal.tally_of-requires-clause-numbers
tally_of-requires-clause-numbers c = λ t m. (c.requires.pooled.tests t (rw c.as_slice-tests.ensures at m)).0

pub tally_of-requires-clause-posted : goal.tally_of-requires-clause-posted
tally_of-requires-clause-posted c = λ t m.
    let h = c.requires.pooled in
    let chosen = c.args.pooled.now.chosen in
    all_posted (beginning c.args.begun.now) chosen.set chosen.chains.lists chosen.selected c.args.pooled.now.core h.chosen h.chains h.complete t (rw c.as_slice-tests.ensures at m)

pub returns : goal.returns
returns c =
    let h = c.requires.pooled in
    let l = c.args.loaded.now in
    let b = beginning c.args.begun.now in
    let chosen = c.args.pooled.now.chosen in
    let core = c.args.pooled.now.core in
    let log = c.args.log in
    let tally = c.in_ok-tally.tally in
    let reads : c.in_ok-text.text ≡ report_text chosen.selected (length chosen.set) (Some (length chosen.chains.lists)) tally.lines tally.counts = rw (c.as_slice-tests.ensures, c.len-chains.ensures, c.as_slice.ensures) at c.in_ok-text.ensures in
    subst (λ (n : ℕ). IsPoolReport l b n log tally.counts.all_passed c.push_asked.new.out (units_of core.events)) h.many
    (pool_reported l b chosen.set chosen.chains.lists chosen.selected core log tally c.push_asked.new.out h.chosen h.program h.chains h.legal h.complete (rw c.as_slice-tests.ensures at c.in_ok-tally.ensures)
    (c.in_ok-push_asked.ensures ∙ ap (λ (t : List ℕ). t ++ cond log (log_text (history core)) []) reads))
