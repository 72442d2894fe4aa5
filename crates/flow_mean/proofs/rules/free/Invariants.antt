use Rattle.std.proofs.Common.{◌≡◌, drop}
use Rattle.flow_item.specs.Lists.{first}
use Rattle.flow_body.specs.Shelves.{meanings_of_shelf}
use Rattle.flow_mean.specs.Determinate.{nodes_where, has_loose_body}
use Rattle.flow_mean.proofs.rules.free.Given as goal

abbrev pub invariant-loop-node : goal.invariant-loop-node
invariant-loop-node g l =
    let meanings = meanings_of_shelf (λ n. (goal.Body-dyn g (n.body.vtable, n.body.value)).pure n.body.value) (λ n. (goal.Body-dyn g (n.body.vtable, n.body.value)).single n.body.value) (λ n. (goal.Body-dyn g (n.body.vtable, n.body.value)).out n.body.value) l.fn.shelf.bodies.items in
    first (nodes_where (has_loose_body meanings l.doc) l.node (drop l.node l.doc.shape.nodes)) ≡ first (nodes_where (has_loose_body meanings l.doc) 0 l.doc.shape.nodes)
