use Rattle.std.proofs.Common.{◌≡◌, ◌<◌, ◌∙◌, ◌+◌, [], ap, sym, length, take, arith}
use Rattle.std.specs.List.{flat_map}
use Rattle.class_reader.specs.declared.parts.ClassParts.{ClassParts}
use Rattle.class_link.specs.Literals.{noted, strings_of}
use Rattle.class_link.proofs.{Blocks.flat_at, TextLaws.noted_append}
use Rattle.class_link.proofs.literals.literals_of.Goals as goal

pub loop-class-preserved : goal.loop-class-preserved
loop-class-preserved c =
    let class = c.class-item.result in
    let i = c.loop-class.class-index in
    let classes = c.args.classes.now in
    let slots : c.slots.result.now ≡ class.pool = c.slots.ensures.gives ∙ ap (λ (x : ClassParts). x.pool) c.parts.ensures.gives in
    let few : length c.parts.result.now.pool + 1 < 65536 = c.slots.ensures.kept.few in
    let same : length c.slots.result.now ≡ length c.parts.result.now.pool = ap length c.slots.ensures.gives in
    record {
      texts =
          c.in_ok-note_strings.ensures.noted ∙ ap (λ xs. noted c.loop-class.texts (strings_of xs)) slots
          ∙ ap (λ texts. noted texts (strings_of class.pool)) c.loop-class.invariant.texts
          ∙ sym (noted_append [] (flat_map (λ (x : ClassParts). strings_of x.pool) (take i classes)) (strings_of class.pool))
          ∙ ap (noted []) (flat_at (λ (x : ClassParts). strings_of x.pool) classes i class c.loop-class-test.true c.class-item.is);
      few = omega (arith, c.in_ok-note_strings.ensures.few);
    }
