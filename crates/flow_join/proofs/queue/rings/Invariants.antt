use Rattle.std.proofs.Common.{◌≡◌, [], map, replicate}
use Rattle.flow_join.specs.Queues.{ring_items}
use Rattle.flow_join.proofs.queue.rings.Given as goal

abbrev pub invariant-loop : goal.invariant-loop
invariant-loop l = map ring_items l.rings.items ≡ replicate l.counter []
