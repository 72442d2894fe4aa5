use Rattle.flow_row.proofs.Calls.{all-of-book, some-seats}
use Rattle.flow_row.proofs.row.close.Goals as goal

pub close-requires-clause-of : goal.close-requires-clause-of
close-requires-clause-of g c =
    all-of-book c.args.row.book.run c.args.row.book.items c.args.row.book.events _ _ c.args.row.run c.args.row.limits c.requires.callers c.requires.workers

pub close-requires-clause-some : goal.close-requires-clause-some
close-requires-clause-some g c = some-seats _ _ c.requires.some
