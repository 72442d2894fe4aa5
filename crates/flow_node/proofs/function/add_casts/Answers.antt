use Rattle.flow_node.proofs.FunctionLemmas.{adding-more}
use Rattle.flow_node.proofs.function.add_casts.Goals as goal

pub loop-k-preserved : goal.loop-k-preserved
loop-k-preserved c = adding-more c.loop-k.invariant c.in_ok-cast.cast c.message_at.result.now c.add_cast.new.casts.items c.in_ok-cast.ensures.0 c.in_ok-cast.ensures.1 c.message_at.ensures c.in_ok-add_cast.ensures.ok
