use Rattle.std.proofs.Common.{[], ◌∷◌, refl}
use Rattle.jvm_model.specs.{Access.read_of, World.at}
use Rattle.jvm_model.specs.declared.values.Location.TheVariants as place
use Rattle.access_tags.proofs.Ending.{lent}
use Rattle.access_tags.proofs.memory.TaggedMemoryMemory.get_text.Goals as goal

pub returns : goal.returns
returns g c =
    let m = c.args.self.now in
    let x = read_of (place.Text c.args.object) (at m.memory.world (place.Text c.args.object)) in
    let e = c.in_ok-note.ensures.memory in (
      (refl, λ _. tt, lent _ c.get_text.result m c.note.new.self c.get_text.follows.lender-at-none (x ∷ []) c.get_text.follows.holds-at-none e (c.in_ok-note.ensures.told x refl c.requires refl refl refl refl refl)),
      record { gives = rw e at c.get_text.ensures.gives; told = tt },
    )
