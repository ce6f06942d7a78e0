use Rattle.std.proofs.Common.{ℕ, Vec, Global, sym, ◌∙◌}
use Rattle.std.proofs.lemmas.Simd.{map-map}
use Rattle.sha2.specs.Sha256.{sha256}
use Rattle.dep_record.proofs.HashLaws.{same_prints}
use Rattle.dep_record.proofs.hashes.prints.Goals as goal

pub returns : goal.returns
returns c =
    same_prints _ _ _ _ _ _ _ _ c.digest.ensures c.digest-2.ensures (c.in_ok-sums_of.ensures ∙ sym (map-map sha256 (λ (y : Vec ℕ Global). y.items) c.args.classes.now)) c.sum_after.ensures
