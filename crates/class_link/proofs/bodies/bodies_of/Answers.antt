use Rattle.std.proofs.Common.{◌∙◌, ◌+◌, ◌++◌, ap, map}
use Rattle.std.specs.Prelude.{option_map}
use Rattle.class_reader.specs.declared.parts.{ClassParts.ClassParts, CodePart.CodePart}
use Rattle.class_link.specs.Bodies.{linked_body}
use Rattle.class_link.proofs.Blocks.{flat_at}
use Rattle.class_link.proofs.bodies.bodies_of.Goals as goal

pub loop-class-preserved : goal.loop-class-preserved
loop-class-preserved c =
    let class = c.class-item.result in
    let body = λ (x : ClassParts) (code : CodePart). linked_body c.args.setting.now x.pool code in
    record {
      place = ap (λ n. n + 1) c.loop-class.invariant.place;
      made =
          c.in_ok-push_class.ensures ∙ ap (λ xs. xs ++ map (λ m. option_map (body class) m.code) class.methods) c.loop-class.invariant.made
          ∙ flat_at (λ (x : ClassParts). map (λ m. option_map (body x) m.code) x.methods) c.args.classes.now c.loop-class.class-index class c.loop-class-test.true c.class-item.is;
    }
