use Rattle.std.proofs.Common.{◌∙◌, subst}
use Rattle.flow_crew.specs.Crew.{IsWorker}
use Rattle.flow_crew.proofs.Seen.{served-given, served-worker, served-worked}
use Rattle.flow_crew.proofs.Turns.{turned-on}
use Rattle.flow_crew.proofs.Wished.{wish-works}
use Rattle.flow_crew.proofs.Works.{idle-worker, worker-halted, worked-kept, halted-kept}
use Rattle.flow_crew.proofs.worker.Worker.serve.Goals as goal

pub serve-requires-clause-worker : goal.serve-requires-clause-worker
serve-requires-clause-worker g c = λ κs lives. idle-worker _ c.args.graph.now.book.run c.args.graph.now.book.items c.args.graph.now.book.events c.args.self.now.chair c.args.self.now.busy c.requires.free.of c.requires.free.idle

pub follow-requires-clause-of : goal.follow-requires-clause-of
follow-requires-clause-of g c =
    λ κs lives. served-worker _ c.args.graph.now.book.run c.args.graph.now.book.items c.args.graph.now.book.events c.args.node c.args.self.now.chair c.serve.new.w c.in-Ok.did c.in-Ok.ensures.did c.own_len.ensures.own
    (subst (λ b. IsWorker (g.S.Bodies.meanings c.args.graph.now.bench.bodies.now) c.args.graph.now.book.run c.args.graph.now.book.items c.args.graph.now.book.events c.args.self.now.chair b) c.requires.free.idle c.requires.free.of)

pub follow-requires-clause-given : goal.follow-requires-clause-given
follow-requires-clause-given g c =
    λ κs lives. served-given c.args.graph.now.book.run c.args.graph.now.book.items c.args.graph.now.book.events c.args.node c.args.self.now.chair c.serve.new.w c.in-Ok.did c.in-Ok.ensures.did c.requires.free.of.about c.requires.node c.len.ensures.legal

pub returns-in-Ok : goal.returns-in-Ok
returns-in-Ok g c =
    turned-on _ c.args.graph.now.book.run c.args.graph.now.book.items c.args.graph.now.book.events c.args.graph.now.pool c.args.self.now.chair c.serve.new.w c.follow.new.self.chair _ _ _
    (served-worked c.args.node c.args.self.now.chair c.serve.new.w c.in-Ok.did c.in-Ok.ensures.did) c.follow.ensures

pub returns-in-Err : goal.returns-in-Err
returns-in-Err g c = record {
  of =
      worker-halted _ c.args.graph.now.book.run c.args.graph.now.book.items c.args.graph.now.book.events c.args.self.now.chair c.serve.new.w c.args.self.now.busy _ c.in-Err.field-0
      (wish-works (g.S.Bodies.meanings c.args.graph.now.bench.bodies.now) c.args.graph.now.book.run c.args.graph.now.book.items c.args.graph.now.book.events c.args.node c.serve.new.w ((halted-kept c.args.self.now.chair c.serve.new.w _ c.in-Err.field-0 c.in-Err.ensures.stopped).about ∙ c.requires.free.of.about)) c.requires.free.of c.in-Err.ensures.stopped;
  place = c.requires.free.place;
  worked = worked-kept c.args.self.now.chair c.serve.new.w (halted-kept c.args.self.now.chair c.serve.new.w _ c.in-Err.field-0 c.in-Err.ensures.stopped);
  idle = λ h. c.requires.free.idle;
}
