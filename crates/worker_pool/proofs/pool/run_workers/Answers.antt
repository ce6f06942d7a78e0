use denote.Param.Send.{sendable}
use Rattle.std.proofs.Common.{◌∙◌, ◌<◌, ◌^◌, ℕ, List, All, ap, length, sym, subst, arith}
use Rattle.std.proofs.lemmas.List.{length-map, Elements.All-map}
use Rattle.std.proofs.Crossing as plain
use Rattle.schedule_plan.specs.declared.shares.Share.{Share}
use Rattle.worker_pool.proofs.pool.run_workers.Goals as goal

pub slots_of-requires-clause-workers : goal.slots_of-requires-clause-workers
slots_of-requires-clause-workers g c =
    let same = ap (λ (l : List (List ℕ)). length l) (c.as_slice.ensures ∙ c.in_ok-lists.ensures) in
    let long = length-map c.args.shares.now (λ (s : Share). s.chains) in
    (omega (arith, same, long, c.requires.workers.0), c.requires.workers.2)

pub slots_of-requires-clause-short : goal.slots_of-requires-clause-short
slots_of-requires-clause-short g c =
    subst (λ (z : List (List ℕ)). All (λ l. length l < 2 ^ 32) z) (sym (c.as_slice.ensures ∙ c.in_ok-lists.ensures))
    (All-map (λ (l : List ℕ). length l < 2 ^ 32) (λ (s : Share). s.chains) c.args.shares.now c.requires.short)

pub work_all-requires-sync-J : goal.work_all-requires-sync-J
work_all-requires-sync-J g c κs within = search (sendable, plain.crosses) depth 60 fits 20000
