use Rattle.std.proofs.Common.{All}
use Rattle.flow_row.specs.Rows.{IsOfRow}
use Rattle.flow_row.proofs.row.put_all_back.Given as goal

abbrev pub invariant-loop-pair : goal.invariant-loop-pair
invariant-loop-pair g l = record {
  callers : All IsOfRow l.seats.callers.items;
  workers : All IsOfRow l.seats.workers.items;
}
