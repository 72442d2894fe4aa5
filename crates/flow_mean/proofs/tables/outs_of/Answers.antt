use Rattle.std.proofs.Common.{◌∙◌}
use Rattle.flow_mean.proofs.Leaving.{leaving-count}
use Rattle.flow_mean.proofs.tables.outs_of.Goals as goal

pub returns : goal.returns
returns c = (c.in_ok-outs.ensures.0, λ n less. c.in_ok-outs.ensures.1 n less ∙ leaving-count c.args.shape.now n)
