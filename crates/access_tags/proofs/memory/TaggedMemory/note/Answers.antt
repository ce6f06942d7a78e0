use Rattle.std.proofs.Common.{[], sym, subst}
use Rattle.jvm_model.specs.declared.values.Location.{Location}
use Rattle.access_tags.specs.{HeadMarks.IsKindAt, Numbering.located}
use Rattle.access_tags.proofs.Following.{kind_at, noted}
use Rattle.access_tags.proofs.memory.TaggedMemory.note.Goals as goal

pub returns-clause-told : goal.returns-clause-told
returns-clause-told g c x i e w l v a z h ts f =
    let m = c.args.self.now in
    noted m c.note_part.new.tags c.discover.new.tree c.note_touch.new.self x h ts (record {
      room = c.in_ok-note_part.ensures.room;
      tags = c.in_ok-note_part.ensures.told m.memory.world m.names x f.numbered i e w l;
      met = λ us kept k. c.in_ok-discover.ensures us x kept w l v k;
      heads = λ kinds T U t us s q k. c.in_ok-note_touch.ensures.stands kinds T us x
          (subst (λ (L : Location). IsKindAt (kinds m.test) L c.args.kind) (sym l) (kind_at kinds m.memory.world m.test (located [] c.args.spot) c.args.kind q e a)) k;
      size = z;
      classes = c.in_ok-note_touch.ensures.classes;
    }) f
