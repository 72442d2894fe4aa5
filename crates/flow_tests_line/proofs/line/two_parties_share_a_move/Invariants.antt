use Rattle.flow_tests_line.proofs.line.two_parties_share_a_move.Given as goal

abbrev pub ghosts-two_parties_move : goal.ghosts-two_parties_move
ghosts-two_parties_move g a = record { table = a.opened }
