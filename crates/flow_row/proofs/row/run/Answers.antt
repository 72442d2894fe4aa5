use denote.Param.Send.{sendable}
use Rattle.flow_line.proofs.chair.Chair.TheSendSync as chair
use Rattle.flow_book.proofs.SentEvents.{event-send}
use Rattle.flow_row.proofs.SentRow.{heap-sync, row-sync}
use Rattle.flow_row.proofs.Calls.{row-callers, row-workers}
use Rattle.flow_row.proofs.row.run.Goals as goal

pub put_all_back-requires-clause-callers : goal.put_all_back-requires-clause-callers
put_all_back-requires-clause-callers g c = row-callers _ c.pairs_of.ensures.callers

pub put_all_back-requires-clause-workers : goal.put_all_back-requires-clause-workers
put_all_back-requires-clause-workers g c = row-workers _ c.pairs_of.ensures.workers

pub for_each_mut-requires-send-T : goal.for_each_mut-requires-send-T
for_each_mut-requires-send-T g c = λ κs _. search (chair.the_send, event-send, sendable) depth 20

pub for_each_mut-requires-sync-F : goal.for_each_mut-requires-sync-F
for_each_mut-requires-sync-F g c = λ κs _. search (row-sync, heap-sync, c.type_bounds, sendable) depth 30
