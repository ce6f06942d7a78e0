use Rattle.std.proofs.Common.{◌<◌, get_or, arith, refl}
use Rattle.vm_tables.proofs.Places.{next_none, next_some}
use Rattle.vm_tables.proofs.numbers.next_of.Goals as goal

pub returns-in-0 : goal.returns-in-0
returns-in-0 c = next_none c.args.body.now c.args.numbers.now c.args.pc c.requires.numbers c.in-0.is

pub returns-in_default : goal.returns-in_default
returns-in_default c =
    let entry = get_or c.args.numbers.now c.args.pc 0 in
    let some : 0 < entry = omega arith in
    next_some c.args.body.now c.args.numbers.now c.args.pc entry c.place_of.result c.requires.numbers refl some c.place_of.ensures
