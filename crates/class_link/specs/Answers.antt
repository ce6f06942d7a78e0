-- What a function of linking answers: what a definition gives, or its fault, unless memory ran out.
use Rattle.std.specs.Prelude.{Option, Some, None, Result}
use Rattle.et_base.specs.Answers as answers
pub use Rattle.et_base.specs.Answers.{nothing}
use Rattle.class_link.specs.declared.fault.LinkFault.{LinkFault}
use Rattle.class_link.specs.declared.fault.LinkFault.TheVariants as fault

-- the fault that an answer names; want of memory names none
abbrev pub says : LinkFault → Option LinkFault
says fault.NoMemory = None
says f = Some f

abbrev pub Fails : {Y : Type 0} → LinkFault → Result Y LinkFault → Type 0
Fails f given = answers.Fails (says f) given

abbrev pub Gives : {X Y : Type 0} → (X → Y) → Result X LinkFault → Result Y LinkFault → Type 0
Gives = answers.Gives says
