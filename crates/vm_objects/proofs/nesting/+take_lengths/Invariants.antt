use Rattle.vm_objects.proofs.nesting.+take_lengths.Given as goal

abbrev pub decreases-take_lengths : goal.decreases-take_lengths
decreases-take_lengths l = l.dims
