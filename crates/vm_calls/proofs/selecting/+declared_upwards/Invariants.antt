use Rattle.vm_calls.proofs.selecting.+declared_upwards.Given as goal

abbrev pub decreases-declared_upwards : goal.decreases-declared_upwards
decreases-declared_upwards l = l.steps
