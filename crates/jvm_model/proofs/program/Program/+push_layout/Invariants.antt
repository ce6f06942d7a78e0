use Rattle.jvm_model.proofs.program.Program.+push_layout.Given as goal

abbrev pub decreases-push_layout : goal.decreases-push_layout
decreases-push_layout l = l.steps
