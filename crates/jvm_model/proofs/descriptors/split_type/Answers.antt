use Rattle.std.proofs.Common.{◌≡◌, ◌∷◌, rules}
use Rattle.jvm_model.proofs.DescriptorLemmas.{splits}
use Rattle.jvm_model.proofs.descriptors.split_type.Goals as goal

pub returns-clause-found : goal.returns-clause-found
returns-clause-found c =
    let is : c.args.units.now ≡ c.in_ok-u.u.now ∷ c.in_ok-u.field-0-1.now = search rules in
    rw (c.split_at.ensures.front, c.split_at.ensures.back, c.type_length.ensures) (splits c.args.units.now c.in_ok-u.u.now c.in_ok-u.field-0-1.now is c.if-u-eq-CLOSE.false)
