use Rattle.vm_interp.proofs.lookup.+plain_method_up.Given as goal

abbrev pub decreases-plain_method_up : goal.decreases-plain_method_up
decreases-plain_method_up l = l.steps
