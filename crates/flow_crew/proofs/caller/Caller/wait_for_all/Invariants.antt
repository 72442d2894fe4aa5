use Rattle.flow_book.specs.Answers.{IsSame}
use Rattle.flow_crew.specs.Crew.{HasWorked, IsCaller, IsFree}
use Rattle.flow_crew.proofs.caller.Caller.wait_for_all.Given as goal

abbrev pub invariant-loop : goal.invariant-loop
invariant-loop g l =
    (goal.iterator-loop g).can_next l.iterator' × (goal.iterator-loop g).is_finite l.iterator' × IsCaller (g.S.Bodies.meanings l.graph.bench.bodies.now) l.graph.book.run l.graph.book.items l.graph.book.events l.self.chair
    × IsFree (g.S.Bodies.meanings l.graph.bench.bodies.now) l.graph.book.run l.graph.book.items l.graph.book.events l.graph.pool l.self.worker.chair l.self.worker.post l.self.worker.busy
    × HasWorked l.initial.self.worker.chair l.self.worker.chair × IsSame l.initial.self.chair l.self.chair
