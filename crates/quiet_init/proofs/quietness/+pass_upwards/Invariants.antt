use Rattle.quiet_init.proofs.quietness.+pass_upwards.Given as goal

abbrev pub decreases-pass_upwards : goal.decreases-pass_upwards
decreases-pass_upwards l = l.steps
