-- What threads ask of the row.
use denote.RattleType.{RattleType}
use denote.Param.Send.{IsSync, sendable}
use denote.Param.SendFields.{declared_sync}
use Rattle.std.proofs.Crossing.{sync}
use Rattle.std.specs.contracts.alloc.Global as heap
use Rattle.flow_line.specs.declared.naming.Naming
use Rattle.flow_row.specs.contracts.row.Row
use Rattle.flow_book.proofs.SentBook.{book-sync}

pub heap-sync : IsSync heap.the_row
heap-sync = search (sync, sendable) depth 20

module _ (B : RattleType) (n : Naming.Ghosts B.Denot) where
  pub row-sync : IsSync (Row.the_row B n)
  row-sync = declared_sync (Row.the_type B n) (book-sync B n, tt)
