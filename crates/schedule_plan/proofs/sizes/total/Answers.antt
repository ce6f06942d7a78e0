-- Different tests have no more units than there are.
use Rattle.std.proofs.Common.{◌-◌, ◌∙◌, ap, List, ℕ, arith}
use Rattle.std.proofs.lemmas.List.{take_all, Sums.sum_by_more}
use Rattle.selection_close.proofs.Lists.{member_less}
use Rattle.schedule_plan.specs.{Grouping.at, Plans.units_of}
use Rattle.schedule_plan.proofs.{Places.member_get, Totals.units_more}
use Rattle.schedule_plan.proofs.sizes.total.Goals as goal

pub overflow_add-total : goal.overflow_add-total
overflow_add-total c = let a = units_more c.args.list.now c.args.units.now c.loop-i.i (omega arith) c.requires.apart c.requires.listed in let b = c.loop-i.invariant in omega arith

pub loop-i-preserved : goal.loop-i-preserved
loop-i-preserved c = let a = sum_by_more (λ t. at c.args.units.now (t - 1)) c.args.list.now c.loop-i.i 0 (omega arith) in let b = c.loop-i.invariant in omega arith

pub returns-clause-total : goal.returns-clause-total
returns-clause-total c = c.loop-i.invariant ∙ ap (λ (l : List ℕ). units_of c.args.units.now l) (take_all c.loop-i.i c.args.list.now (omega arith))

pub returns-clause-numbers : goal.returns-clause-numbers
returns-clause-numbers c = λ t m. omega (arith, member_less c.args.list.now 4294967296 t (λ i. omega (arith, c.type_inv.list i)) m)

pub overflow_sub-total : goal.overflow_sub-total
overflow_sub-total c = (c.requires.listed (at c.args.list.now c.loop-i.i) (member_get c.args.list.now c.loop-i.i (omega arith))).0

pub bounds-units-list : goal.bounds-units-list
bounds-units-list c = let p = c.requires.listed (at c.args.list.now c.loop-i.i) (member_get c.args.list.now c.loop-i.i (omega arith)) in omega (arith, p.0, p.1)
