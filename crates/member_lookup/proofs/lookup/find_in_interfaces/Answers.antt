use Rattle.std.proofs.Common.{◌∙◌}
use Rattle.indexmap.specs.IndexMap.{keys}
use Rattle.member_lookup.proofs.Lookups.{interfaces_find}
use Rattle.member_lookup.proofs.lookup.find_in_interfaces.Goals as goal

pub returns : goal.returns
returns c =
    c.one_or_first.ensures
    ∙ interfaces_find c.args.p.now c.args.class c.args.name.now c.args.descriptor.now c.deref.result.now c.as_slice-methods.result.now (keys c.in_ok-above.above)
    (c.deref.ensures.value ∙ c.in_ok-classes.ensures) (c.as_slice-methods.ensures.keys ∙ c.in_ok-found.ensures) c.in_ok-above.ensures
