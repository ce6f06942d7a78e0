use Rattle.acceptance.proofs.threads.status_of.Given as goal

abbrev pub ghosts-electric_on : goal.ghosts-electric_on
ghosts-electric_on g a = record { name = a.blank.name; parts = a.blank.parts }
