use Rattle.std.proofs.Common.{All}
use Rattle.flow_row.specs.Rows.{IsCaller, IsWorker}
use Rattle.flow_row.proofs.row.pairs_of.Given as goal

abbrev pub invariant-loop : goal.invariant-loop
invariant-loop g l = record {
  callers : All IsCaller l.seats.callers.items;
  workers : All IsWorker l.seats.workers.items;
}
