use Rattle.std.proofs.Common.{arith, sym}
use Rattle.std.proofs.lemmas.List.Elements.{All-get_or}
use Rattle.jvm_model.specs.Linked.{IsClass}
use Rattle.vm_tables.proofs.Gathering.{gathers_known, gathers_more, gathers_one, one_shorter, above_shorter, interfaces_there}
use Rattle.vm_tables.proofs.interfaces.+gathering.Goals as goal

pub gather-returns-then-contains : goal.gather-returns-then-contains
gather-returns-then-contains t c = gathers_known c.args.p.now c.args.interface c.args.noted.now.keys (sym c.if-contains.ensures) c.requires.closed

pub gather-gather_all-requires : goal.gather-gather_all-requires
gather-gather_all-requires t c = (
  omega (arith, above_shorter c.args.p.now c.requires.linked c.args.interface c.interfaces.result.now c.requires.there c.interfaces.ensures),
  (c.requires.linked, (interfaces_there c.args.p.now c.requires.linked c.args.interface c.interfaces.result.now c.requires.there c.interfaces.ensures, c.requires.closed)),
)

pub gather-returns : goal.gather-returns
gather-returns t c = gathers_one c.args.p.now c.requires.linked c.args.interface c.interfaces.result.now _ _ _ c.requires.there c.interfaces.ensures c.in_ok-gather_all.ensures c.in_ok-insert.ensures.keys

pub gather_all-gather-requires : goal.gather_all-gather-requires
gather_all-gather-requires t c = (
  omega (arith, one_shorter c.args.p.now c.requires.linked c.loop-interface.interface-index c.args.interfaces.now c.loop-interface-test.true),
  (c.requires.linked, (All-get_or (λ i. IsClass c.args.p.now i) c.args.interfaces.now c.loop-interface.interface-index 0 c.loop-interface-test.true c.requires.there, c.loop-interface.invariant.closed)),
)

pub gather_all-loop-interface-preserved : goal.gather_all-loop-interface-preserved
gather_all-loop-interface-preserved t c = gathers_more c.args.p.now c.loop-interface.interface-index c.args.interfaces.now _ _ _ c.loop-interface-test.true c.loop-interface.invariant c.in_ok-gather.ensures
