use Rattle.flow_tests_book.proofs.commits.a_put_is_of_both.Given as goal

abbrev pub ghosts-put_made : goal.ghosts-put_made
ghosts-put_made g a = record { table = a.opened }
