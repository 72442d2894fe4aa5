use Rattle.flow_row.proofs.Calls.{row-is, row-valid, row-built, callers-here, workers-here}
use Rattle.flow_row.proofs.row.opened_row.Goals as goal

pub new-requires-clause-valid : goal.new-requires-clause-valid
new-requires-clause-valid g c = row-valid c.in-Ok.shape c.in-Ok.ensures

pub new-requires-clause-built : goal.new-requires-clause-built
new-requires-clause-built g c = row-built c.in-Ok.shape c.in-Ok.ensures

pub returns-in-Ok-new : goal.returns-in-Ok-new
returns-in-Ok-new g c =
    let same = row-is c.in-Ok-new.book.run c.in-Ok.shape c.in-Ok-new.ensures.run c.in-Ok.ensures in
    record { callers = callers-here c.in-Ok-new.book.run _ same c.in-Ok-new.ensures.callers; workers = workers-here c.in-Ok-new.book.run _ same c.in-Ok-new.ensures.workers }
