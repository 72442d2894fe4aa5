use Rattle.flow_tests_book.proofs.node.a_body_runs.Given as goal

abbrev pub ghosts-one_body : goal.ghosts-one_body
ghosts-one_body g a = record { table = a.opened }
