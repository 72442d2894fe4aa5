use Rattle.std.proofs.Common.{sym, ◌∙◌}
use Rattle.flow_node.specs.Parts.{store_kind, store_state}
use Rattle.flow_node.proofs.StoreLemmas.{length-in_order}
use Rattle.flow_node.proofs.part.Part.len.Goals as goal

pub returns-in-Store : goal.returns-in-Store
returns-in-Store c = rw (c.in-Store.is) (c.len.ensures ∙ sym (length-in_order (store_kind c.in-Store.store) (store_state c.in-Store.store).items))
