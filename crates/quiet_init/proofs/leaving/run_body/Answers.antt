use Rattle.quiet_init.proofs.Leaves.{entered_can, entered_leaves}
use Rattle.quiet_init.proofs.leaving.run_body.Goals as goal

pub step_through-requires : goal.step_through-requires
step_through-requires c = record {
  can = entered_can c.args.tables.now c.args.method c.args.body.now c.as_slice.result.now c.in-Some.before.now c.in-Some._end.now c.push.new.self c.args.stack.now c.args.memory.now c.operand_places.result
      c.requires.can c.operand_places.ensures c.operand_places.type_inv c.as_slice.ensures c.in-Some.ensures.cases.0 c.requires.empty c.in-Ok.ensures.pushed;
}

pub returns-clause-left : goal.returns-clause-left
returns-clause-left c = entered_leaves c.args.tables.now c.args.method c.args.body.now c.as_slice.result.now c.in-Some.before.now c.in-Some._end.now c.push.new.self c.args.stack.now c.args.memory.now c.step_through.new.memory
    c.as_slice.ensures c.in-Some.ensures.cases.0 c.requires.empty c.in-Ok.ensures.pushed c.step_through.ensures.left
