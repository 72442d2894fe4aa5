use Rattle.flow_shape.proofs.Orders.{valid_joined}
use Rattle.flow_mean.proofs.judge.early.Goals as goal

pub outs_of-requires-clause-joined : goal.outs_of-requires-clause-joined
outs_of-requires-clause-joined g c = valid_joined c.args.doc.now.shape c.requires.valid
