use Rattle.std.proofs.Common.{◌≡◌, ◌∙◌, List, Bool, false, get_or, length, refl, ap}
use Rattle.jvm_model.specs.declared.program.Program.{Program}
use Rattle.access_tags.specs.Ran.{kinds_in, touched_by}
use Rattle.access_tags.proofs.{FoundAll.told_all, Settling.so_far_all}
use Rattle.access_tags.proofs.memory.TaggedMemory.reaches.Goals as goal

pub reaches_of-requires : goal.reaches_of-requires
reaches_of-requires g c = record { few = c.requires.linked.few_tests }

pub returns-clause-reach : goal.returns-clause-reach
returns-clause-reach g c T f =
    let m = c.args.self.now in
    let k : m.heads.classes ≡ length c.args.p.now.classes = f.classes ∙ ap (λ (p : Program). length p.classes) (f.program ∙ c.requires.program) in
    let n = length c.args.p.now.tests in
    let told = told_all m T n f in
    c.in_ok-reaches.ensures.reach (kinds_in m.memory.world) (touched_by T) T n (touched_by T n) k (told.heads (kinds_in m.memory.world) (λ u o h. refl))
    (λ j h. so_far_all T n j h) (λ j h. ap (λ (xs : List Bool). get_or xs j false) c.deref.ensures.value ∙ c.in_ok-alone.ensures T n f j h)
