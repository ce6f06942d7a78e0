use Rattle.std.proofs.Common.{◌<◌, arith}
use Rattle.vm_tables.proofs.Places.{number_found, number_inside, less_one_some}
use Rattle.vm_tables.proofs.tables.Tables.number.Goals as goal

pub returns-in-0-clause-found : goal.returns-in-0-clause-found
returns-in-0-clause-found c =
    let found = number_found c.self.inside.program.now c.args.self.now c.args.method c.args.pc c.entry_at.result c.self.inside.numbers c.self.invariant.numbers c.self.view_is c.entry_at.ensures in
    rw c.in-0.is at found

pub returns-in_default-clause-found : goal.returns-in_default-clause-found
returns-in_default-clause-found c =
    let found = number_found c.self.inside.program.now c.args.self.now c.args.method c.args.pc c.entry_at.result c.self.inside.numbers c.self.invariant.numbers c.self.view_is c.entry_at.ensures in
    let some : 0 < c.entry_at.result = omega arith in
    rw c.from.ensures (rw (less_one_some c.entry_at.result some) at found)

pub returns-in_default-clause-within : goal.returns-in_default-clause-within
returns-in_default-clause-within c =
    let inside = number_inside c.self.inside.program.now c.args.self.now c.args.method c.args.pc c.entry_at.result c.self.inside.numbers c.self.invariant.numbers c.self.view_is c.entry_at.ensures in
    omega (arith, inside, c.from.ensures)
