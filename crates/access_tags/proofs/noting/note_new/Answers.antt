use Rattle.std.proofs.Common.{◌∙◌, sym}
use Rattle.access_tags.specs.Followed.{numbering_in}
use Rattle.access_tags.proofs.PartNotes.{placed, spot_alone}
use Rattle.access_tags.proofs.noting.note_new.Goals as goal

pub returns-clause-told : goal.returns-clause-told
returns-clause-told c w names x i e h a b T t ts s =
    c.in_ok-note_first.ensures.stands (numbering_in w names) T t ts x (placed w names c.args.spot c.in-Some.at e h (c.in-Some.ensures w i e h)) a (b ∙ sym (spot_alone names c.args.spot e)) s
