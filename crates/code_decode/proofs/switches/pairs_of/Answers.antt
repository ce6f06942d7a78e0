use Rattle.std.proofs.Common.{◌≡◌, ◌∷◌, [], rules}
use Rattle.code_decode.specs.Switches.{pairs_at}
use Rattle.code_decode.proofs.switches.pairs_of.Goals as goal

pub returns : goal.returns
unfolding pairs_at
returns c =
    let e : c.in_ok-args.args ≡ c.args.other ∷ [] = search rules in
    rw c.in_ok-count.ensures (rw e at c.all_pairs_of.ensures)
