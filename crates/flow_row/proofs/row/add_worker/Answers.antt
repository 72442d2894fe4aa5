use Rattle.flow_row.proofs.Calls.{pushed, some-pushed}
use Rattle.flow_row.proofs.row.add_worker.Goals as goal

pub returns-in-Ok : goal.returns-in-Ok
returns-in-Ok g c = record {
  callers = c.requires.callers;
  workers = pushed _ _ c.args.worker c.in-Ok.ensures c.requires.workers c.requires.worker;
  some = some-pushed _ _ c.args.worker c.in-Ok.ensures;
}
