-- The units of the next chain.
use Rattle.std.proofs.Common.{ℕ, List, length, ap, subst, sym, arith}
use Rattle.order_law.specs.Conflicts.{Distinct}
use Rattle.order_law.proofs.Posts.{forms_apart}
use Rattle.schedule_plan.specs.Plans.{HasUnits}
use Rattle.schedule_plan.proofs.Totals.{list_read, sizes_next, sizes_all, numbers_next, few_sizes}
use Rattle.schedule_plan.proofs.sizes.sizes_of.Goals as goal

pub total-requires-clause-apart : goal.total-requires-clause-apart
total-requires-clause-apart c =
    let chain = list_read c.args.c.now.lists c.as_slice-list-items.result.now c.loop-list.list-index c.list-item.result c.as_slice.result.now c.as_slice-list-items.ensures (omega arith) c.list-item.is c.as_slice.ensures in
    subst (λ (l : List ℕ). Distinct l) (sym chain) ((forms_apart c.args.c.now.lists c.args.c.now.form).once c.loop-list.list-index)

pub total-requires-clause-listed : goal.total-requires-clause-listed
total-requires-clause-listed c =
    let chain = list_read c.args.c.now.lists c.as_slice-list-items.result.now c.loop-list.list-index c.list-item.result c.as_slice.result.now c.as_slice-list-items.ensures (omega arith) c.list-item.is c.as_slice.ensures in
    subst (λ (l : List ℕ). HasUnits l c.args.units.now) (sym chain) (c.requires.listed c.loop-list.list-index)

pub loop-list-preserved : goal.loop-list-preserved
loop-list-preserved c =
    let chain = list_read c.args.c.now.lists c.as_slice-list-items.result.now c.loop-list.list-index c.list-item.result c.as_slice.result.now c.as_slice-list-items.ensures (omega arith) c.list-item.is c.as_slice.ensures in
    let long = ap (λ (C : List (List ℕ)). length C) c.as_slice-list-items.ensures in
    record {
      sizes = sizes_next c.args.c.now.lists c.args.units.now c.loop-list.sizes.items _ c.as_slice.result.now c.loop-list.list-index c.total.result (omega arith) c.loop-list.invariant.sizes chain c.total.ensures.total c.in_ok-push.ensures.items;
      numbers = numbers_next c.args.c.now.lists c.loop-list.list-index 4294967296 c.as_slice.result.now chain c.loop-list.invariant.numbers (λ t m. omega (arith, c.total.ensures.numbers t m));
    }

pub returns-clause-few : goal.returns-clause-few
returns-clause-few c =
    let long = ap (λ (C : List (List ℕ)). length C) c.as_slice-list-items.ensures in
    let few = few_sizes c.args.c.now.lists c.args.units.now c.loop-list.sizes.items c.args.c.now.form c.requires.listed (λ i t h m. c.loop-list.invariant.numbers i t (omega arith) m)
    (sizes_all c.args.c.now.lists c.args.units.now c.loop-list.sizes.items c.loop-list.list-index (omega arith) c.loop-list.invariant.sizes) in
    omega arith
