use Rattle.flow_tests_book.proofs.node.no_event_is_left.Given as goal

abbrev pub ghosts-none_left : goal.ghosts-none_left
ghosts-none_left g a = record { table = a.opened }
