use Rattle.std.proofs.Common.{take}
use Rattle.flow_body.specs.Shelves.{meanings_of_shelf}
use Rattle.flow_mean.specs.Passing.{HasSizes, Passes}
use Rattle.flow_mean.proofs.flow.walk.Given as goal

abbrev pub invariant-loop-node : goal.invariant-loop-node
invariant-loop-node g l = record {
  sizes : HasSizes l.doc l.flow.passed.items l.flow.kept.items l.flow.puts.items l.flow.repeats.items;
  known : Passes (meanings_of_shelf (λ n. (goal.Body-dyn g (n.body.vtable, n.body.value)).pure n.body.value) (λ n. (goal.Body-dyn g (n.body.vtable, n.body.value)).single n.body.value) (λ n. (goal.Body-dyn g (n.body.vtable, n.body.value)).out n.body.value) l.fn.shelf.bodies.items) l.doc (take l.node-index l.order) l.flow.passed.items l.flow.kept.items l.flow.puts.items l.flow.repeats.items;
}
