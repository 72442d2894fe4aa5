use Rattle.flow_tests_crew.proofs.crew_threads.all_ends.Given as goal

abbrev pub ghosts-ran_named : goal.ghosts-ran_named
ghosts-ran_named g a = record { table = a.opened }
