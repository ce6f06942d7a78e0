use Rattle.std.proofs.Common.{nat_eq, ◌∙◌}
use Rattle.std.proofs.lemmas.Map.Made.{is_some-lookup}
use Rattle.member_lookup.proofs.lookup.contains.Goals as goal

pub returns : goal.returns
returns c = c.contains_key.ensures ∙ is_some-lookup (nat_eq c.args.class) c.args.classes.now.entries
