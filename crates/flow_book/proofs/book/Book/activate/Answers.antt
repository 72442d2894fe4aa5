use Rattle.flow_book.proofs.Stored.{halted-shows}
use Rattle.flow_book.proofs.book.Book.activate.Goals as goal

pub store-requires : goal.store-requires
store-requires g c = halted-shows _ _ _ _ c.in-Err.ensures.stopped
