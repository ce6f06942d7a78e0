use Rattle.std.proofs.Common.{◌++◌, ◌∙◌, [], ℕ, Vec, Global, flat_map, map, ap}
use Rattle.std.proofs.lemmas.List.{append_assoc}
use Rattle.sha2.specs.Sha256.{sha256}
use Rattle.dep_record.specs.Hashes.{sized, suite_bytes}
use Rattle.dep_record.proofs.hashes.sum_after.Goals as goal

pub returns : goal.returns
unfolding suite_bytes
returns c =
    let before = c.args.before.now in
    let text = sized c.args.suite.now in
    let files = flat_map sized (map (λ (y : Vec ℕ Global). y.items) c.args.classes.now) in
    let first = c.update.ensures [] c.new-sum.ensures in
    c.finalize.ensures (before ++ text ++ files) (c.add_classes.ensures (before ++ text) (c.add_sized.ensures before first)) ∙ ap sha256 (append_assoc before text files)
