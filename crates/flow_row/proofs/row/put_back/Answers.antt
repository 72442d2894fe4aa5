use Rattle.flow_row.proofs.Calls.{pushed}
use Rattle.flow_row.proofs.row.put_back.Goals as goal

pub leave-requires : goal.leave-requires
leave-requires g c = (c.args.pair.caller_of, c.args.pair.calls)

pub add_worker-requires-clause-callers : goal.add_worker-requires-clause-callers
add_worker-requires-clause-callers g c = pushed _ _ c.leave.new.c c.in-Ok.ensures c.requires.callers c.leave.ensures

pub add_worker-requires-clause-worker : goal.add_worker-requires-clause-worker
add_worker-requires-clause-worker g c = c.args.pair.worker_of
