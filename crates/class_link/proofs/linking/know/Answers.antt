use Rattle.std.proofs.lemmas.List.Elements.{All-more}
use Rattle.std.proofs.Common.{subst}
use Rattle.class_reader.specs.declared.parts.ClassParts.{ClassParts}
use Rattle.class_reader.specs.ClassGrammar as grammar
use Rattle.class_link.proofs.linking.know.Goals as goal

pub loop-class-preserved : goal.loop-class-preserved
loop-class-preserved c = All-more (λ x. grammar.IsClass x) c.args.classes.now c.loop-class.class-index c.class-item.result c.loop-class-test.true c.loop-class.invariant (subst (λ (x : ClassParts). grammar.IsClass x) c.class-item.is c.parts.ensures.kept)
