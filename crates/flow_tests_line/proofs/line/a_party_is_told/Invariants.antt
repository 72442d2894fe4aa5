use Rattle.flow_tests_line.proofs.line.a_party_is_told.Given as goal

abbrev pub ghosts-tell_of_a_move : goal.ghosts-tell_of_a_move
ghosts-tell_of_a_move g a = record { table = a.opened }
