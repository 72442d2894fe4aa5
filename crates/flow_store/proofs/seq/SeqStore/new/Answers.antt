use Rattle.flow_store.proofs.TagOrders.{keeps-none}
use Rattle.flow_store.proofs.seq.SeqStore.new.Goals as goal

pub invariant_of-result : goal.invariant_of-result
invariant_of-result c = keeps-none c.new.result.entries 0 _ c.new.ensures.empty
