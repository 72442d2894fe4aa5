use Rattle.flow_tests_crew.proofs.crew.tried.Given as goal

abbrev pub ghosts-tried_named : goal.ghosts-tried_named
ghosts-tried_named g a = record { table = a.opened }
