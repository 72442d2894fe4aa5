use Rattle.std.proofs.Common.{◌≡◌, ◌-◌, ◌≤◌, true, None, length}
use Rattle.flow_pool.specs.Posts.{IsPostOf}
use Rattle.flow_book.specs.Callers.{may_call}
use Rattle.flow_crew.specs.Crew.{IsCaller, IsWorker}
use Rattle.flow_run.specs.Following.{IsAt}
use Rattle.flow_run.proofs.follow.follow_script.Given as goal

abbrev pub invariant-steps : goal.invariant-steps
invariant-steps g l = record {
  of : IsCaller (g.S.Bodies.meanings l.graph.bench.bodies.now) l.graph.book.run l.graph.book.items l.graph.book.events l.caller.chair;
  worker : IsWorker (g.S.Bodies.meanings l.graph.bench.bodies.now) l.graph.book.run l.graph.book.items l.graph.book.events l.caller.worker.chair l.caller.worker.busy;
  post : IsPostOf l.graph.pool l.caller.worker.post;
  calls : may_call l.graph.book.run l.caller.chair ≡ true;
  none : l.caller.chair.kept ≡ None;
  within : l.at ≤ length l.script;
  party : l.caller.chair.party ≡ l.initial.caller.chair.party;
  worker_party : l.caller.worker.chair.party ≡ l.initial.caller.worker.chair.party;
  here : IsAt l.graph.book.run.shape l.script l.at l.caller.chair;
}

abbrev pub decreases-steps : goal.decreases-steps
decreases-steps g l = length l.script - l.at
