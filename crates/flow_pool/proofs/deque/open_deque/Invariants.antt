use Rattle.flow_pool.proofs.deque.open_deque.Given as goal

abbrev pub ghosts-tell_deque : goal.ghosts-tell_deque
ghosts-tell_deque a = record { nodes = a.nodes }
