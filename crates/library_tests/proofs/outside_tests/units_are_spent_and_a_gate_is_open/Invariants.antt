use Rattle.library_tests.proofs.outside_tests.units_are_spent_and_a_gate_is_open.Given as goal

abbrev pub ghosts-spend_three : goal.ghosts-spend_three
ghosts-spend_three a = record { name = a.blank.name; parts = a.blank.parts }
