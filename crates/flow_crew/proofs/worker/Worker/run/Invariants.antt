use Rattle.flow_crew.specs.Crew.{HasWorked, IsFree}
use Rattle.flow_crew.proofs.worker.Worker.run.Given as goal

abbrev pub invariant-loop : goal.invariant-loop
invariant-loop g l =
    (goal.iterator-loop g).can_next l.iterator' × (goal.iterator-loop g).is_finite l.iterator'
    × IsFree (g.S.Bodies.meanings l.graph.bench.bodies.now) l.graph.book.run l.graph.book.items l.graph.book.events l.graph.pool l.self.chair l.self.post l.self.busy × HasWorked l.initial.self.chair l.self.chair
