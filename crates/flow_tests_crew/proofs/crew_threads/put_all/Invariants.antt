use Rattle.flow_tests_crew.specs.Tried.{MayCall}
use Rattle.flow_tests_crew.proofs.crew_threads.put_all.Given as goal

abbrev pub invariant-loop-tag : goal.invariant-loop-tag
invariant-loop-tag g l =
    MayCall (g.S.Bodies.meanings l.graph.bench.bodies.now) l.graph.book.run l.graph.book.items l.graph.book.events l.graph.pool l.caller.chair l.caller.worker.chair l.caller.worker.busy l.caller.worker.post
