use Rattle.std.proofs.Common.{subst, true}
use Rattle.std.specs.{BTreeSet.Updates, Ordering.nat_cmp}
use Rattle.class_reader.proofs.TextLaw.{seen_more, on_ok}
use Rattle.class_reader.proofs.texts.Texts.once.Goals as goal

pub returns-clause-seen : goal.returns-clause-seen
returns-clause-seen c =
    let updates = subst (λ k. Updates nat_cmp c.args.keys.now c.insert.new.self k true) c.key-key.ensures.key c.in_ok-added.ensures.updates in
    on_ok c.wants.result _ (seen_more c.args.self.now c.args._before.now c.args.name c.args.descriptor c.args.keys.now c.insert.new.self c.key-key.ensures.few c.requires.name c.requires.descriptor c.requires.seen updates)
