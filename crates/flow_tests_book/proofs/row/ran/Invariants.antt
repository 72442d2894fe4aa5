use Rattle.flow_tests_book.proofs.row.ran.Given as goal

abbrev pub ghosts-run : goal.ghosts-run
ghosts-run g a = record { table = a.opened }
