use Rattle.acceptance.proofs.threads.is_run.Given as goal

abbrev pub ghosts-is_run_on : goal.ghosts-is_run_on
ghosts-is_run_on g a = record { name = a.blank.name; parts = a.blank.parts }
