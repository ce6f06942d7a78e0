use Rattle.std.proofs.Common.{◌∙◌}
use Rattle.member_lookup.proofs.Lookups.{own_first, path_find}
use Rattle.member_lookup.proofs.lookup.find_field.Goals as goal

pub returns-in-Some : goal.returns-in-Some
returns-in-Some c = own_first c.args.p.now c.args.class _ c.args.name.now c.args.descriptor.now c.in-Some.ensures

pub returns : goal.returns
returns c = c.field_in.ensures ∙ path_find c.args.p.now c.args.class c.args.name.now c.args.descriptor.now c.deref.result.now (c.deref.ensures.value ∙ c.in_ok-path.ensures)
