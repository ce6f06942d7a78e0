-- Each number goes to its place.
use Rattle.std.proofs.Common.{rules, arith}
use Rattle.schedule_plan.proofs.Labelled.{own_next}
use Rattle.schedule_plan.proofs.labels.places.Goals as goal

pub loop-i-init : goal.loop-i-init
loop-i-init c = record { many = search rules; own = λ k h. absurd (omega arith) }

pub loop-i-preserved : goal.loop-i-preserved
loop-i-preserved c = record {
  many = search rules;
  own = own_next c.loop-i.labels.items _ c.loop-i.i c.loop-i.invariant.many c.loop-i.invariant.own c.in_ok-push.ensures.items;
}

pub returns-clause-own : goal.returns-clause-own
returns-clause-own c = λ k h. c.loop-i.invariant.own k (omega arith)
