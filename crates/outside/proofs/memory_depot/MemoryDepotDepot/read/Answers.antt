use Rattle.std.proofs.Common.{refl, subst}
use Rattle.std.specs.Prelude.{Contains}
use Rattle.outside.specs.{Counts.raised, MemoryDepot.MemoryDepotState}
use Rattle.outside.proofs.memory_depot.MemoryDepotDepot.read.Goals as goal

pub returns-then-is_listed-clause-failed : goal.returns-then-is_listed-clause-failed
returns-then-is_listed-clause-failed c =
    let call = c.raise-self-inside in
    let listed = c.if-is_listed.ensures.0 refl in
    let in_fail = subst (λ calls. Contains calls call.result) c.deref.ensures.value listed in
    let numbered = subst (λ k. Contains c.self.inside.fail.items k) call.ensures.raised in_fail in
    let P : MemoryDepotState → Type 0 = λ d. Contains d.fail (raised d.calls) in
    (λ _. subst P c.self.view_is numbered, λ _. refl)
