use Rattle.std.proofs.Common.{◌∙◌, List, ℕ, drop, ap}
use Rattle.electric.proofs.GatherLemmas.{taken_within, handed_step}
use Rattle.electric.proofs.gathered.Gathered.hand_on.Goals as goal

pub returns-clause-handed : goal.returns-clause-handed
returns-clause-handed g c =
    let taken = c.write.ensures in
    handed_step g.S.Sink.shown c.self.inside.sink c.self.inside.sent c.self.inside.bytes.items c.args.self.now _ c.split_at.result.1.now _ _
    c.self.view_is
    (c.split_at.ensures.back ∙ ap (λ (all : List ℕ). drop c.self.inside.sent all) c.as_slice.ensures.value)
    c.unwrap_or-taken.ensures
    (taken_within c.write.result _ taken.within)
    (record { told = taken.told; room = taken.room; later = taken.faults; quiet = taken.has_room })
