use Rattle.std.proofs.Common.{◌∙◌, sym, ap, is_some}
use Rattle.std.proofs.lemmas.Map.Text.{btree_map_updates_str}
use Rattle.class_reader.specs.Lookups.{noted}
use Rattle.class_reader.proofs.TextLaw.{noted_new}
use Rattle.class_reader.proofs.texts.note.Goals as goal

pub returns-in_ok-insert-in-None-clause-noted : goal.returns-in_ok-insert-in-None-clause-noted
returns-in_ok-insert-in-None-clause-noted c = λ q.
    btree_map_updates_str c.args.text.now c.args.texts.now c.insert.new.self _ c.in_ok-insert-in-None.ensures.updates q
    ∙ noted_new (noted c.args.texts.now) c.args.text.now q c.args.i (ap is_some (sym c.get.ensures.value ∙ sym c.copied.ensures ∙ c.in-None.is))
