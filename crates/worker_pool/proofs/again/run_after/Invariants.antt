use Rattle.worker_pool.proofs.again.run_after.Given as goal

abbrev pub ghosts-run_after_counted : goal.ghosts-run_after_counted
ghosts-run_after_counted g a = record { name = a.blank.name; parts = a.blank.parts }
