use Rattle.std.proofs.Common.{ℕ, ◌<◌, subst, sym}
use Rattle.std.specs.Vec.{vec_capacity}
use Rattle.run_core.specs.Run.{Run, IsInRange, MayFollow}
use Rattle.run_core.proofs.Kept.{goes, room_left, kept_after}
use Rattle.run_core.proofs.history.Core.add.Goals as goal

pub enter-requires : goal.enter-requires
enter-requires c = (goes c.self.invariant c.args.event (subst (λ (r : Run). IsInRange r c.args.event) (sym c.self.view_is) c.requires.range)
    (subst (λ (r : Run). MayFollow r c.args.event) (sym c.self.view_is) c.requires.follows)).enters

pub push_event-requires : goal.push_event-requires
push_event-requires c =
    subst (λ (z : ℕ). z < vec_capacity c.self.inside.history) (sym c.self.inside.history.ok.0) (room_left c.self.invariant c.args.event (goes c.self.invariant c.args.event
    (subst (λ (r : Run). IsInRange r c.args.event) (sym c.self.view_is) c.requires.range) (subst (λ (r : Run). MayFollow r c.args.event) (sym c.self.view_is) c.requires.follows)))

pub invariant_of-self : goal.invariant_of-self
invariant_of-self c =
    let f = subst (λ (r : Run). MayFollow r c.args.event) (sym c.self.view_is) c.requires.follows in
    kept_after c.self.invariant c.args.event c.requires.split f (goes c.self.invariant c.args.event (subst (λ (r : Run). IsInRange r c.args.event) (sym c.self.view_is) c.requires.range) f)
    _ _ _ _ c.enter.ensures.rows c.enter.ensures.hands c.push_event.ensures.items c.push_event.ensures.room
