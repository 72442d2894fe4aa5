-- What threads ask of what is shared in a run.
use denote.RattleType.{RattleType}
use denote.Ref.{NamedLft}
use denote.Param.Send.{IsSend, IsSync, shr_sync, sendable}
use denote.Param.SendFields.{declared_sync, as_row_sync}
use denote.Struct.Field.{shr_ref_field}
use Rattle.std.proofs.Crossing.{sync}
use Rattle.flow_line.specs.declared.naming.Naming
use Rattle.flow_crew.specs.contracts.graph.Graph as Graph
use Rattle.flow_run.specs.contracts.run.Site as Site
use Rattle.flow_crew.proofs.SentGraph.{doc-sync, graph-sync}

module _ (a : NamedLft) (R S G B : RattleType) (r : IsSync R) (y : IsSync S) (z : IsSync G) (s : IsSend B) (t : IsSync B) where
  pub site-sync : (b : _) (n : Naming.Ghosts B.Denot) → IsSync (Site.the_row a R S G B b n)
  site-sync b n = declared_sync (Site.the_type a R S G B b n) (
    search (sync, sendable) depth 20,
    (
      search (r, sendable) depth 20,
      (
        search (doc-sync, sendable) depth 20,
        (as_row_sync (shr_ref_field a (Graph.the_row a S G B b n) tt) (shr_sync _ _ (Graph.the_row a S G B b n) (graph-sync a S G B b n y z s t)), tt),
      ),
    ),
  )
