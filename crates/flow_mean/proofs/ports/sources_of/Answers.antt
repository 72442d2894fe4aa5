use Rattle.std.proofs.Common.{◌∙◌}
use Rattle.flow_mean.proofs.Leaving.{sources-into}
use Rattle.flow_mean.proofs.ports.sources_of.Goals as goal

pub returns : goal.returns
returns c = (c.in_ok-sources.ensures.0, λ n port less small. c.in_ok-sources.ensures.1 n port less small ∙ sources-into n port c.args.shape.now.edges)
