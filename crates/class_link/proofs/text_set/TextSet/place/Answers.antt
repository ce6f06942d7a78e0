use Rattle.std.proofs.Common.{◌∙◌, ap, position}
use Rattle.std.specs.Str.{bytes_eq}
use Rattle.class_link.proofs.TextLaws.{place_below}
use Rattle.class_link.proofs.text_set.TextSet.place.Goals as goal

pub returns-clause-place : goal.returns-clause-place
returns-clause-place c = c.copied.ensures ∙ c.get.ensures.value ∙ c.self.invariant.at c.args.text.now ∙ ap (position (bytes_eq c.args.text.now)) c.self.view_is

pub returns-clause-within : goal.returns-clause-within
returns-clause-within c = place_below c.self.inside.texts.items c.self.inside.places c.args.text.now c.copied.result c.self.invariant (c.copied.ensures ∙ c.get.ensures.value)
