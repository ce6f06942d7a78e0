use Rattle.std.proofs.Common.{nat_eq, arith, sym, ap, ◌∙◌}
use Rattle.std.specs.Map.{keys_of}
use Rattle.member_lookup.specs.Walks.{walk}
use Rattle.indexmap.proofs.SetLemmas.{keys_insert_entry}
use Rattle.member_lookup.proofs.Walking.{visits_none, visits_known, walked_start, visits_walk, visits_more, visits_nexts}
use Rattle.member_lookup.proofs.walk.+walking.Goals as goal

pub visit-returns-then-is_walked : goal.visit-returns-then-is_walked
visit-returns-then-is_walked t c = visits_known _ _ _ _ _ (sym c.if-is_walked.ensures) c.requires

pub visit-visit_nexts-requires : goal.visit-visit_nexts-requires
visit-visit_nexts-requires t c = (omega arith, walked_start c.args.p.now c.args.supers c.args.class c.args.seen.now c.insert.new.self c.in_ok-insert.ensures.updates.0 (ap (λ es. keys_of es) c.in_ok-insert.ensures.entries ∙ keys_insert_entry nat_eq c.args.seen.now.entries c.args.class 0) c.requires)

pub visit-returns : goal.visit-returns
visit-returns t c =
    visits_walk _ _ _ _ _ _ _ _ (omega arith)
    (ap (λ es. keys_of es) c.in_ok-insert.ensures.entries ∙ keys_insert_entry nat_eq c.args.seen.now.entries c.args.class 0)
    c.in_ok-visit_nexts.ensures
    c.in_ok-insert-2.ensures.updates.0
    (ap (λ es. keys_of es) c.in_ok-insert-2.ensures.entries ∙ keys_insert_entry nat_eq c.visit_nexts.new.seen.entries c.args.class c.args.steps)

pub visit_all-loop-class-init : goal.visit_all-loop-class-init
visit_all-loop-class-init t c = visits_none _ _ _ c.requires

pub visit_all-visit-requires : goal.visit_all-visit-requires
visit_all-visit-requires t c = (omega arith, c.loop-class.invariant.walked)

pub visit_all-loop-class-preserved : goal.visit_all-loop-class-preserved
visit_all-loop-class-preserved t c = visits_more _ _ (λ d. walk c.args.p.now c.args.supers c.args.steps d) _ _ _ _ _ c.loop-class-test.true c.loop-class.invariant c.in_ok-visit.ensures

pub visit_nexts-visit_all-requires : goal.visit_nexts-visit_all-requires
visit_nexts-visit_all-requires t c = (omega arith, c.requires)

pub visit_nexts-visit_superclass-requires : goal.visit_nexts-visit_superclass-requires
visit_nexts-visit_superclass-requires t c = (omega arith, c.in_ok-visit_all.ensures.walked)

pub visit_nexts-returns : goal.visit_nexts-returns
visit_nexts-returns t c = visits_nexts _ _ _ _ _ _ _ _ c.interfaces.ensures c.in_ok-visit_all.ensures c.in_ok-visit_superclass.ensures

pub visit_superclass-visit-requires : goal.visit_superclass-visit-requires
visit_superclass-visit-requires t c = (omega arith, c.requires)
