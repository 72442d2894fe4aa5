use Rattle.flow_run.proofs.run.run_kept.Given as goal

abbrev pub ghosts-run_named : goal.ghosts-run_named
ghosts-run_named g a = record { table = a.opened }
