use Rattle.std.proofs.Common.{◌∙◌, ap, Some}
use Rattle.flow_crew.proofs.Answered.{answers-run}
use Rattle.flow_crew.proofs.Shelved.{body-there, body-runs}
use Rattle.flow_crew.proofs.graph.Graph.answer.Goals as goal

pub run-requires-after_bounds : goal.run-requires-after_bounds
run-requires-after_bounds g c =
    let b = c.requires in
    λ κs lives. body-there c.args.self.now.book.run.shape.nodes c.args.job.now.node b.0 c.args.self.now.bench.count c.in-Run.body c.in-Run.arg b.1 (b.2 ∙ ap (λ x. Some x) c.in-Run.is) c.args.self.now.built c.args.self.now.shelved

pub unreachable-requires : goal.unreachable-requires
unreachable-requires g c =
    let b = c.requires in
    body-runs c.args.self.now.book.run.shape.nodes c.args.job.now.node b.0 _ b.1 (b.2 ∙ ap (λ x. Some x) c.in-Submit.is) c.args.self.now.built

pub returns-clause-answers : goal.returns-clause-answers
returns-clause-answers g c = answers-run (g.S.Bodies.meanings c.args.self.now.bench.bodies.now) c.args.job.now.body c.in-Run.body c.in-Run.arg c.args.job.now.item _ c.in-Run.is c.run.ensures
