use Rattle.electrictest.specs.Records.{beginning}
use Rattle.electrictest.proofs.{ChosenLaws.few_tests, GeneratedLaws.summed_of, PoolLaws.all_posted}
use Rattle.electrictest.proofs.generated.summed.Goals as goal

pub tally_of-requires-clause-few : goal.tally_of-requires-clause-few
tally_of-requires-clause-few c =
    let h = c.requires.pooled in
    rw c.as_slice-chosen.ensures (few_tests c.args.loaded.now.checked c.args.pooled.now.chosen.set h.chosen.closure.ascending h.tests c.requires.few)

pub tally_of-requires-clause-numbers : goal.tally_of-requires-clause-numbers
tally_of-requires-clause-numbers c = λ t m. (c.requires.pooled.tests t (rw c.as_slice-chosen.ensures at m)).0

pub tally_of-requires-clause-posted : goal.tally_of-requires-clause-posted
tally_of-requires-clause-posted c = λ t m.
    let h = c.requires.pooled in
    let chosen = c.args.pooled.now.chosen in
    all_posted (beginning c.args.begun.now) chosen.set chosen.chains.lists chosen.selected c.args.pooled.now.core h.chosen h.chains h.complete t (rw c.as_slice-chosen.ensures at m)

pub returns : goal.returns
returns c =
    let h = c.requires.pooled in
    let b = c.args.begun.now in
    let chosen = c.args.pooled.now.chosen in
    summed_of c.args.loaded.now (beginning b) b.record chosen.set chosen.chains.lists chosen.selected c.args.pooled.now.core c.args.tests c.args.workers c.in_ok-tally.tally c.in_ok-text.text h.chosen h.program h.chains h.many h.legal h.complete
    (rw c.as_slice-chosen.ensures at c.in_ok-tally.ensures) c.in_ok-text.ensures
