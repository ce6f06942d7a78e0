use Rattle.acceptance.proofs.threads.is_answered.Given as goal

abbrev pub ghosts-answers_in_turn-N-PoolName : goal.ghosts-answers_in_turn-N-PoolName
ghosts-answers_in_turn-N-PoolName g a = record { program = a.core.program; workers = a.core.workers }

abbrev pub ghosts-answers_in_turn-N-RunName : goal.ghosts-answers_in_turn-N-RunName
ghosts-answers_in_turn-N-RunName g a = record { chains = a.core.chains }
