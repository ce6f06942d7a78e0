use Rattle.acceptance.proofs.threads.piece_of.Given as goal

abbrev pub ghosts-piece_on : goal.ghosts-piece_on
ghosts-piece_on a = record { name = a.blank.name; parts = a.blank.parts }
