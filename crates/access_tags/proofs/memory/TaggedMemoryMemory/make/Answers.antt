use Rattle.std.proofs.Common.{◌≡◌, ◌∙◌, List, length, ap, refl, subst, sym, arith}
use Rattle.jvm_model.specs.declared.program.Program.{Program}
use Rattle.jvm_model.specs.declared.values.Head.{Head}
use Rattle.jvm_model.specs.Classes.{blank, fields_of}
use Rattle.access_tags.specs.Followed.{IsLaid}
use Rattle.access_tags.proofs.Following.{after_make, grown, head_blank, laid_blank, made_told, numbered_made, width_blank}
use Rattle.access_tags.proofs.memory.TaggedMemoryMemory.make.Goals as goal

pub returns-clause-told : goal.returns-clause-told
returns-clause-told g c h ts f =
    let m = c.args.self.now in let p = m.memory.program in let w = m.memory.world in let x = blank p c.args.head in
    let n = record m { memory = c.make.new.self; tags = c.note_made.new.tags; numbers = c.push.new.self; heads = c.note.new.self } in
    let l = subst (λ (q : Program). IsLaid q x) (sym f.program) (laid_blank p c.args.head) in
    let i = numbered_made w m.numbers c.push.new.self x c.len-first.result f.numbered (c.len-first.ensures ∙ f.cells) l c.in_ok-push.ensures.statics c.in_ok-push.ensures.bases c.in_ok-push.ensures.places c.in_ok-push.ensures.layouts in
    let room = c.in_ok-note_made.ensures.room in
    let fields : length c.fields.result.now ≡ length (fields_of p c.args.head.kind) = ap (λ (xs : List _). length xs) (c.fields.ensures ∙ ap (λ (q : Program). fields_of q c.args.head.kind) (f.numbered.layouts ∙ f.program)) in
    let wide = width_blank p c.args.head in
    after_make m n c.grow.new.self x h ts (record {
      program = c.in_ok-object.ensures.of;
      world = c.in_ok-object.ensures.set;
      numbered = i;
      cells = λ e. let a = room.cells in let b = c.in_ok-grow.ensures.cells in let d = c.elements.ensures in omega arith;
      places = c.in_ok-push.ensures.places;
      named = room.named ∙ c.in_ok-grow.ensures.named;
      grown = λ T t us e s. grown m c.grow.new.self x T t us c.in_ok-grow.ensures.stands e s;
      tags = made_told w m.names c.push.new.self c.grow.new.self c.note_made.new.tags c.in_ok-object.object p c.args.head c.in_ok-object.ensures.gives (c.in_ok-push.ensures.places ∙ f.program) c.in_ok-note_made.ensures.told i;
      heads = λ kinds T us y o a q k. c.in_ok-note.ensures.stands kinds T us y o a (q ∙ ap (λ (z : Head). z.kind) (head_blank p c.args.head)) k;
      classes = c.in_ok-note.ensures.classes;
      names = refl;
      ended = refl;
      discovery_tree = refl;
      test = refl;
    }) f
