use Rattle.std.proofs.Common.{arith, sym, ◌∙◌, ap, Ok}
use Rattle.class_reader.proofs.ClassLaw.{class_takes, same_spelled, fault_spells_none}
use Rattle.class_reader.proofs.class.read_class.Goals as goal

pub new-requires : goal.new-requires
new-requires c = record { bytes = c.args.bytes.now; spelled = class_takes c.args.bytes.now c.in-Ok.parts (λ i. omega (arith, c.type_inv.bytes i)) c.in-Ok.ensures }

pub returns-in-Ok-clause-found : goal.returns-in-Ok-clause-found
returns-in-Ok-clause-found c = rw c.new.ensures (class_takes c.args.bytes.now c.in-Ok.parts (λ i. omega (arith, c.type_inv.bytes i)) c.in-Ok.ensures)

pub returns-in-Ok-clause-only : goal.returns-in-Ok-clause-only
returns-in-Ok-clause-only c = λ parts s. ap Ok (same_spelled c.args.bytes.now parts c.in-Ok.parts c.in-Ok.ensures s ∙ sym c.new.ensures)

pub returns-in-Err-Fault-clause-only : goal.returns-in-Err-Fault-clause-only
returns-in-Err-Fault-clause-only c = λ parts s. absurd (fault_spells_none c.args.bytes.now c.in-Err-Fault.fault parts (rw c.in-Err-Fault.field-0-is at c.in-Err-Fault.ensures) s)
