use Rattle.flow_store.proofs.TagOrders.{keeps-freed}
use Rattle.flow_store.proofs.seq.SeqStoreStore.free.Goals as goal

pub invariant_of-self : goal.invariant_of-self
invariant_of-self c = let i = c.self.inside in keeps-freed i.next i.items.entries i.lock i.sorted c.self.invariant
