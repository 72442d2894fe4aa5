use Rattle.flow.proofs.serve_run.Goals as goal

pub flow_top-requires-clause-bodies : goal.flow_top-requires-clause-bodies
flow_top-requires-clause-bodies g c = λ κs outlives. c.requires.count
