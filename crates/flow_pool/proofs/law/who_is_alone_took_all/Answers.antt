use Rattle.flow_pool.proofs.Lone.{all_taken_alone}
use Rattle.flow_pool.proofs.law.who_is_alone_took_all.Goals as goal

pub returns : goal.returns
returns c = all_taken_alone
