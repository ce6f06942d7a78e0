use Rattle.vm_tables.proofs.trivial.+is_silent_upwards.Given as goal

abbrev pub decreases-is_silent_upwards : goal.decreases-is_silent_upwards
decreases-is_silent_upwards l = l.steps
