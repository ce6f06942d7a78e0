use Rattle.std.proofs.Common.{ap}
use Rattle.std.specs.Option.{option_copied}
use Rattle.vm_tables.proofs.Places.{form_is, form_isnt}
use Rattle.vm_tables.proofs.tables.Tables.form.Goals as goal

pub returns-in_err-number : goal.returns-in_err-number
returns-in_err-number c = form_isnt c.args.self.now c.args.method c.args.pc _ c.in_err-number.ensures.found (ap option_copied c.from_residual.ensures)

pub returns : goal.returns
returns c =
    form_is c.self.inside.program.now c.args.self.now c.args.method c.args.pc c.in_ok-number.number c.in_ok-method.field-0.now c.in_ok-body.body.now c.in_ok-placed.placed.now
    c.self.view_is c.in_ok-number.ensures.found c.in_ok-method.ensures.record c.in_ok-body.ensures.value c.in_ok-placed.ensures.value
