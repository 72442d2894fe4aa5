-- What threads ask of a graph.
use denote.RattleType.{RattleType}
use denote.Ref.{NamedLft}
use denote.Param.Send.{IsSend, IsSync, sendable}
use denote.Param.SendFields.{declared_sync, as_row_sync}
use Rattle.std.proofs.Crossing.{crosses, Vec-sync}
use Rattle.flow_item.proofs.val.Val.TheLaws.TheKnot as knot
use Rattle.flow_item.proofs.items.Items.TheSendSync as items
use Rattle.flow_item.proofs.val.Text.TheSendSync as text
use Rattle.flow_shape.proofs.Edge.TheSendSync as edge
use Rattle.flow_shape.specs.contracts.Step as Step
use Rattle.flow_doc.specs.contracts.Doc as Doc
use Rattle.flow_book.proofs.SentEvents.{kind-sync}
use Rattle.flow_book.proofs.SentBook.{book-sync}
use Rattle.flow_line.specs.declared.naming.Naming
use Rattle.flow_pool.proofs.pool.Pool.TheSendSync as pool
use Rattle.flow_crew.proofs.bodies.Bench.TheSendSync as bench
use Rattle.flow_crew.proofs.bell.Bell.TheSendSync as bell
use Rattle.flow_crew.proofs.mark.Mark.TheSendSync as mark
use Rattle.flow_crew.specs.contracts.mark.Mark as Mark
use Rattle.flow_crew.specs.contracts.graph.Graph as Graph
use Rattle.std.specs.contracts.vec.Vec as Vec
use Rattle.std.specs.contracts.alloc.Global as Global
use Rattle.std.specs.contracts.impls.GlobalAllocator.TheImpl.{ghosts}

pub step-sync : IsSync Step.the_row
step-sync = search (crosses, knot.crosses, sendable) depth 60 fits 200000

pub doc-sync : IsSync Doc.the_row
doc-sync = search (crosses, knot.crosses, kind-sync, step-sync, edge.the_sync, edge.the_field_sync, items.the_sync, text.the_sync, sendable) depth 60 fits 200000

module _ (a : NamedLft) (S G B : RattleType) (b : _) (n : Naming.Ghosts B.Denot) (y : IsSync S) (z : IsSync G) (s : IsSend B) (t : IsSync B) where
  pub graph-sync : IsSync (Graph.the_row a S G B b n)
  graph-sync = declared_sync (Graph.the_type a S G B b n) (
    search (doc-sync, sendable) depth 20,
    (
      search (book-sync, sendable) depth 20,
      (
        search (pool.the_sync, sendable) depth 20,
        (
          bench.the_sync a S b y,
          (
            search (z, sendable) depth 20,
            (
              search (bell.the_sync, sendable) depth 20,
              (
                as_row_sync (Vec.the_field Mark.the_row Global.the_row ghosts) (Vec-sync Mark.the_row mark.the_sync),
                (search sendable, tt),
              ),
            ),
          ),
        ),
      ),
    ),
  )
