use Rattle.std.proofs.Common.{[], ◌∷◌, None, false, refl}
use Rattle.vm_mem.specs.Stores.{place_in}
use Rattle.jvm_model.specs.declared.values.Touch.{Touch}
use Rattle.access_tags.proofs.Ending.{lent}
use Rattle.access_tags.proofs.memory.TaggedMemoryMemory.get_store.Goals as goal

pub returns : goal.returns
returns g c =
    let m = c.args.self.now in
    let x : Touch = record { write = false; location = place_in c.args.part c.args.name.now; gave = None } in
    let e = c.in_ok-note_name.ensures.memory in (
      (refl, λ _. tt, lent _ c.get_store.result m c.note_name.new.self c.get_store.follows.lender-at-none (x ∷ []) c.get_store.follows.holds-at-none e c.in_ok-note_name.ensures.told),
      record { gives = rw e at c.get_store.ensures.gives; told = tt },
    )
