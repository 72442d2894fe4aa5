use Rattle.std.proofs.Common.{sym, refl}
use Rattle.flow_crew.proofs.Seen.{ended-later}
use Rattle.flow_crew.proofs.Turns.{turned-asked, turned-as, turned-same}
use Rattle.flow_crew.proofs.Works.{worker-keeps}
use Rattle.flow_crew.proofs.worker.Worker.round.Goals as goal

pub refusal-requires-clause-kept : goal.refusal-requires-clause-kept
refusal-requires-clause-kept g c = λ κs lives. worker-keeps _ c.args.graph.now.book.run c.args.graph.now.book.items c.args.graph.now.book.events c.turn.new.self.chair c.turn.new.self.busy c.in-Refused.ensures.of

pub returns-in-Refused-clause-turned : goal.returns-in-Refused-clause-turned
returns-in-Refused-clause-turned g c =
    turned-same _ c.args.graph.now.book.run c.args.graph.now.book.items c.args.graph.now.book.events c.args.graph.now.pool c.args.self.now.chair c.turn.new.self.chair c.refusal.new.c c.turn.new.self.post c.turn.new.self.busy _ _ c.in-Refused.ensures c.refusal.ensures.same (λ h. h)

pub returns-in-Some-clause-turned : goal.returns-in-Some-clause-turned
returns-in-Some-clause-turned g c =
    turned-asked _ c.args.graph.now.book.run c.args.graph.now.book.items c.args.graph.now.book.events c.args.graph.now.pool c.args.self.now.chair c.turn.new.self.chair c.asks.new.self.chair c.turn.new.self.post c.asks.new.self.post c.turn.new.self.busy c.asks.new.self.busy _ c.in-Idle.ensures c.in-Some.ensures.of c.in-Some.ensures.post c.in-Some.ensures.worked c.in-Some.ensures.busy

pub returns-in-Some-clause-ended : goal.returns-in-Some-clause-ended
returns-in-Some-clause-ended g c =
    ended-later c.args.graph.now.book.run c.args.self.now.chair c.turn.new.self.chair c.asks.new.self.chair c.in-Some.waited c.in-Idle.ensures.worked c.in-Some.ensures.ended

pub returns-in-None-clause-turned : goal.returns-in-None-clause-turned
returns-in-None-clause-turned g c =
    turned-as _ c.args.graph.now.book.run c.args.graph.now.book.items c.args.graph.now.book.events c.args.graph.now.pool c.args.self.now.chair c.asks.new.self.chair c.sleep.new.self.chair c.asks.new.self.post c.sleep.new.self.post c.asks.new.self.busy c.sleep.new.self.busy _
    (turned-asked _ c.args.graph.now.book.run c.args.graph.now.book.items c.args.graph.now.book.events c.args.graph.now.pool c.args.self.now.chair c.turn.new.self.chair c.asks.new.self.chair c.turn.new.self.post c.asks.new.self.post c.turn.new.self.busy c.asks.new.self.busy _ c.in-Idle.ensures c.in-None.ensures.of c.in-None.ensures.post c.in-None.ensures.worked c.in-None.ensures.busy)
    c.sleep.ensures.0 c.sleep.ensures.2 c.sleep.ensures.1
