use Rattle.std.proofs.lemmas.List.Elements.{All-pop}
use Rattle.flow_row.specs.Rows.{IsCaller, IsWorker}
use Rattle.flow_row.proofs.row.last_pair.Goals as goal

pub returns-in-Some-Some : goal.returns-in-Some-Some
returns-in-Some-Some g c = record {
  callers = (All-pop IsCaller _ _ c.take_last-caller.result c.take_last-caller.ensures c.requires.callers).0;
  workers = (All-pop IsWorker _ _ c.take_last-worker.result c.take_last-worker.ensures c.requires.workers).0;
}

pub returns-in_default : goal.returns-in_default
returns-in_default g c = record {
  callers = (All-pop IsCaller _ _ c.take_last-caller.result c.take_last-caller.ensures c.requires.callers).0;
  workers = (All-pop IsWorker _ _ c.take_last-worker.result c.take_last-worker.ensures c.requires.workers).0;
}
