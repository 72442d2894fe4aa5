use Rattle.std.proofs.Common.{Some}
use Rattle.std.proofs.lemmas.List.Elements.{All-pop}
use Rattle.flow_tests_crew.specs.Tried.{MayCall, MayWork}
use Rattle.flow_tests_crew.proofs.trials.opened_pair.Goals as goal

pub returns-clause-calls : goal.returns-clause-calls
returns-clause-calls g c =
    let graph = c.opened_parts-graph.result.graph in
    (All-pop (λ k. MayCall (g.S.Bodies.meanings graph.bench.bodies.now) graph.book.run graph.book.items graph.book.events graph.pool k.chair k.worker.chair k.worker.busy k.worker.post)
    c.opened_parts-graph.result.callers.items c.pop.new.self.items (Some c.in-Some.caller) c.in-Some.ensures.items c.opened_parts-graph.ensures.ready).1

pub returns-clause-works : goal.returns-clause-works
returns-clause-works g c =
    let graph = c.opened_parts-graph.result.graph in
    (All-pop (λ w. MayWork (g.S.Bodies.meanings graph.bench.bodies.now) graph.book.run graph.book.items graph.book.events graph.pool w.chair w.busy w.post)
    c.opened_parts-graph.result.workers.items c.pop-2.new.self.items (Some c.in-Some-pop.worker) c.in-Some-pop.ensures.items c.opened_parts-graph.ensures.hired).1
