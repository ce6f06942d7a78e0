use Rattle.std.proofs.Common.{sym, subst}
use Rattle.jvm_model.specs.declared.program.Placed.{Placed}
use Rattle.std.proofs.Common.{List}
use Rattle.vm_interp.specs.Dispatching.{Stands}
use Rattle.vm_interp.proofs.Numbered.{rest_all, stands_next_to}
use Rattle.vm_interp.proofs.dispatching.behind_first.Goals as goal

pub returns : goal.returns
returns c = subst (λ (xs : List Placed). Stands c.args._tables.now c.args._body.now xs c.args._stack.now) (sym (rest_all c.args.rest.now))
    (stands_next_to c.args._tables.now c.args._body.now c.args.rest.now c.args._stack.now c.requires.linked c.requires.of c.requires.at c.requires.there)
