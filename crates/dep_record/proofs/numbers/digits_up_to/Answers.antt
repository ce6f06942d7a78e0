use Rattle.std.proofs.Common.{arith}
use Rattle.std.proofs.lemmas.{Grind.common_steps, List.at_drop_more, List.at_drop_all}
use Rattle.dep_record.proofs.NumberLaws.{digits_after, digits_by_steps}
use Rattle.dep_record.proofs.numbers.digits_up_to.Goals as goal

pub returns-in_err-value : goal.returns-in_err-value
returns-in_err-value c =
    let e = at_drop_more (digits_after c.args.most c.loop-b.value) c.args.bytes.now c.loop-b.b-index 0 c.loop-b-test.true in
    let s = digits_by_steps c.args.most c.args.bytes.now in
    grind (arith, common_steps)

pub loop-b-preserved : goal.loop-b-preserved
loop-b-preserved c =
    let e = at_drop_more (digits_after c.args.most c.loop-b.value) c.args.bytes.now c.loop-b.b-index 0 c.loop-b-test.true in
    grind (arith, common_steps)

pub returns-clause-value : goal.returns-clause-value
returns-clause-value c =
    let s = digits_by_steps c.args.most c.args.bytes.now in
    let e = at_drop_all (digits_after c.args.most c.loop-b.value) c.args.bytes.now c.loop-b.b-index (omega arith) in
    let i = c.loop-b.invariant.0 in
    cc
