use Rattle.flow_bench.proofs.committed.Given as goal

abbrev pub ghosts-run : goal.ghosts-run
ghosts-run g a = record { table = a.opened }
