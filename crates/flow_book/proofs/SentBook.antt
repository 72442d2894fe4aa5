-- That threads may share a book.
use denote.RattleType.{RattleType}
use denote.Param.Send.{IsSync, view_send, sendable}
use denote.Param.SendFields.{declared_send, declared_sync, as_row_sync}
use Rattle.std.proofs.Crossing.{crosses, Vec-sync}
use Rattle.std.proofs.sync.Mutex.TheSendSync as mutex
use Rattle.flow_line.proofs.chair.Chair.TheSendSync as chair
use Rattle.flow_line.proofs.line.Line.TheSendSync as line
use Rattle.flow_line.specs.declared.naming.Naming
use Rattle.flow_line.specs.contracts.line.Line as L
use Rattle.flow_item.specs.contracts.event.Event as E
use Rattle.flow_book.specs.contracts.machine.GraphMachine as G
use Rattle.flow_book.specs.contracts.machine.Run as R
use Rattle.flow_book.specs.contracts.machine.GraphMachineMachine.TheImpl.{ghosts}
use Rattle.flow_book.specs.contracts.book.Book
use Rattle.flow_book.specs.contracts.stopper.Stopper as Stop
use Rattle.flow_book.specs.contracts.post.Post as P
use Rattle.flow_book.specs.contracts.post.Post.TheInside as Inside
use Rattle.std.specs.contracts.sync.Mutex as M
use Rattle.std.specs.contracts.vec.Vec as Vec
use Rattle.std.specs.contracts.alloc.Global as heap
use Rattle.std.specs.contracts.impls.GlobalAllocator.TheImpl as heap_ghosts
use Rattle.flow_book.proofs.SentEvents.{event-send, run-sync}
use Rattle.flow_book.proofs.SentNodes.{node-send}

module _ (B : RattleType) (n : Naming.Ghosts B.Denot) where
  pub book-sync : IsSync (Book.the_row B n)
  book-sync = declared_sync (Book.the_type B n) (
    as_row_sync (L.the_field G.the_row B E.the_row R.the_row n ghosts) (line.the_field_sync G.the_row B E.the_row R.the_row n ghosts event-send),
    (
      search (as_row_sync, run-sync, sendable) depth 20,
      (
        search sendable,
        (
          search sendable,
          (
            as_row_sync (Vec.the_field (M.the_row (P.the_row B n)) heap.the_row heap_ghosts.ghosts) (Vec-sync (M.the_row (P.the_row B n)) (mutex.the_sync (P.the_row B n) (view_send _ _ _ _ _ (declared_send (Inside.the_type B n) (search (crosses, chair.the_send, node-send, event-send, sendable) depth 30))))),
            (as_row_sync (M.the_field (Stop.the_row B n)) (mutex.the_sync (Stop.the_row B n) (declared_send (Stop.the_type B n) (search (crosses, chair.the_send, event-send, sendable) depth 30))), tt),
          ),
        ),
      ),
    ),
  )
