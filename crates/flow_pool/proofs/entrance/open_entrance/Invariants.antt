use Rattle.flow_pool.proofs.entrance.open_entrance.Given as goal

abbrev pub ghosts-tell_entrance : goal.ghosts-tell_entrance
ghosts-tell_entrance a = record { nodes = a.nodes }
