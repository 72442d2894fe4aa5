use Rattle.std.proofs.Common.{ℕ, List, Option, subst}
use Rattle.flow_shape.specs.Orders.{Sorts}
use Rattle.flow_mean.proofs.flow.order_of.Goals as goal

pub unreachable-requires : goal.unreachable-requires
unreachable-requires c = c.requires.acyclic (subst (λ (o : Option (List ℕ)). Sorts c.args.shape.now o) c.in-None.is c.in_ok-order.ensures)

pub returns : goal.returns
returns c = (subst (λ (o : Option (List ℕ)). Sorts c.args.shape.now o) c.in-Some.is c.in_ok-order.ensures).0
