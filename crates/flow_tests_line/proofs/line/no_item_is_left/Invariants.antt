use Rattle.flow_tests_line.proofs.line.no_item_is_left.Given as goal

abbrev pub ghosts-refused_at_once : goal.ghosts-refused_at_once
ghosts-refused_at_once g a = record { table = a.opened }
