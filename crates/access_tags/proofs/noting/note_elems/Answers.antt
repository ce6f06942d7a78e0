use Rattle.std.proofs.Common.{◌≡◌, ◌<◌, ◌∙◌, length, subst, arith}
use Rattle.jvm_model.specs.declared.values.Value.TheVariants.{Null}
use Rattle.jvm_model.specs.World.{object_at}
use Rattle.jvm_model.specs.Access.{elems_made}
use Rattle.access_tags.specs.declared.tags.Tags.{Tags}
use Rattle.access_tags.specs.Followed.{HaveNoted, numbering_in}
use Rattle.access_tags.proofs.PartNotes.{all_elems, elems_noted}
use Rattle.access_tags.proofs.noting.note_elems.Goals as goal

pub loop-index-preserved : goal.loop-index-preserved
loop-index-preserved c =
    let v = c.loop-index.invariant in let r = c.in_ok-note_new.ensures.room in
    record {
      room = record { cells = r.cells ∙ v.room.cells; named = r.named ∙ v.room.named };
      told = λ w names i h e. let l : c.loop-index.index < length (object_at w c.args.object).elems = omega arith in
          elems_noted w names c.args.numbers.now c.note_at_once.new.tags c.loop-index.tags c.note_new.new.tags c.args.object c.loop-index.index Null l
          c.in_ok-note_new.ensures.told i h (v.told w names i h e);
    }

pub returns-then-branch-clause-told : goal.returns-then-branch-clause-told
returns-then-branch-clause-told c = c.in_ok-note_at_once.ensures.told c.if-branch.true

pub returns-clause-told : goal.returns-clause-told
returns-clause-told c w names i h e =
    let q : c.loop-index.index ≡ length (object_at w c.args.object).elems = omega (arith, c.loop-index-test.false, c.loop-index.auto.index-end) in
    subst (λ (a : Tags). HaveNoted (numbering_in w names) a c.loop-index.tags (elems_made c.args.object 0 (object_at w c.args.object).elems)) (c.in_ok-note_at_once.ensures.kept c.if-branch.false)
    (all_elems (numbering_in w names) c.note_at_once.new.tags c.loop-index.tags c.args.object c.loop-index.index (object_at w c.args.object).elems q (c.loop-index.invariant.told w names i h e))
