use denote.RattleType.{RattleType}
use denote.Ref.{NamedLft}
use denote.Param.Send.{IsSend, IsSync, shr_sync, sendable}
use denote.Param.SendFields.{declared_sync, as_row_sync}
use denote.Struct.Field.{shr_ref_field}
use Rattle.std.proofs.Crossing.{sync}
use Rattle.flow_line.specs.declared.naming.Naming
use Rattle.flow_crew.specs.contracts.graph.Graph as Graph
use Rattle.flow_tests_crew.specs.contracts.crew_threads.Site as Site
use Rattle.flow_crew.proofs.Sent.{caller-send}
use Rattle.flow_crew.proofs.SentGraph.{graph-sync}
use Rattle.flow_tests_crew.proofs.crew_threads.call_all.Goals as goal

module _ (a : NamedLft) (R S G B : RattleType) (r : IsSync R) (y : IsSync S) (z : IsSync G) (s : IsSend B) (t : IsSync B) where
  site-sync : (b : _) (n : Naming.Ghosts B.Denot) → IsSync (Site.the_row a R S G B b n)
  site-sync b n = declared_sync (Site.the_type a R S G B b n) (
    search (sync, sendable) depth 20,
    (
      search (r, sendable) depth 20,
      (
        as_row_sync (shr_ref_field a (Graph.the_row a S G B b n) tt) (shr_sync _ _ (Graph.the_row a S G B b n) (graph-sync a S G B b n y z s t)),
        (search sendable, tt),
      ),
    ),
  )

pub for_each_mut-requires-send-T : goal.for_each_mut-requires-send-T
for_each_mut-requires-send-T g c = λ κs _. search (caller-send, sendable) depth 20

pub for_each_mut-requires-sync-F : goal.for_each_mut-requires-sync-F
for_each_mut-requires-sync-F g c = λ κs _. search (site-sync, c.type_bounds, sendable) depth 20
