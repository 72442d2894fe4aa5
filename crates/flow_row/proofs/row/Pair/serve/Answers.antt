use Rattle.flow_row.proofs.row.Pair.serve.Goals as goal

pub serve-requires-clause-worker : goal.serve-requires-clause-worker
serve-requires-clause-worker g c = (c.args.self.now.worker_of, c.args.self.now.idle)

pub invariant_of-self : goal.invariant_of-self
invariant_of-self g c = record { caller_of = c.args.self.now.caller_of; calls = c.args.self.now.calls; worker_of = c.serve.ensures.0; idle = c.serve.ensures.1 }
