use Rattle.flow_shape.proofs.Orders.{valid_joined}
use Rattle.flow_mean.proofs.cycles.cyclic.Goals as goal

pub first_on_cycle-requires : goal.first_on_cycle-requires
first_on_cycle-requires c = valid_joined c.args.shape.now c.requires
