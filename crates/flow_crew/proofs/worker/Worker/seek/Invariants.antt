use Rattle.flow_pool.specs.Posts.{IsPostOf}
use Rattle.flow_crew.proofs.worker.Worker.seek.Given as goal

abbrev pub invariant-loop : goal.invariant-loop
invariant-loop g l = IsPostOf l.graph.pool l.post
