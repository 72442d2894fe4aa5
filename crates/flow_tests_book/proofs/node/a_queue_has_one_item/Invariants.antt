use Rattle.flow_tests_book.proofs.node.a_queue_has_one_item.Given as goal

abbrev pub ghosts-one_item : goal.ghosts-one_item
ghosts-one_item g a = record { table = a.opened }
