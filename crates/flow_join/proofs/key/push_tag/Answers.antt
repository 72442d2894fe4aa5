use Rattle.flow_join.proofs.Counts.{count-pushed}
use Rattle.flow_join.proofs.key.push_tag.Goals as goal

pub returns-clause-tags : goal.returns-clause-tags
returns-clause-tags c t = count-pushed t _ _ _ c.in-Ok.ensures.permutation
