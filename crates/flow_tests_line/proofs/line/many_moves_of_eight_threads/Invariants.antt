use Rattle.flow_tests_line.proofs.line.many_moves_of_eight_threads.Given as goal

abbrev pub ghosts-eight_threads : goal.ghosts-eight_threads
ghosts-eight_threads g a = record { table = a.opened }
