use Rattle.std.proofs.Common.{sym, ◌∙◌}
use Rattle.flow_store.specs.declared.store.Way.TheVariants as W
use Rattle.flow_store.proofs.TagOrders.{room-came, room-new}
use Rattle.flow_store.specs.Stores.{is_by_caller}
use Rattle.flow_store.proofs.seq.SeqStoreStore.room.Goals as goal

pub returns-in-Caller : goal.returns-in-Caller
returns-in-Caller c = room-came _ c.args.way W.Caller (sym c.has_come.ensures.value ∙ c.if-has_come.true) c.in-Caller.is

pub returns-in-Edge : goal.returns-in-Edge
returns-in-Edge c = room-came _ c.args.way W.Edge (sym c.has_come.ensures.value ∙ c.if-has_come.true) c.in-Edge.is

pub returns-else-has_come : goal.returns-else-has_come
returns-else-has_come c = room-new _ (is_by_caller c.args.way) (sym c.has_come.ensures.value ∙ c.if-has_come.false)
