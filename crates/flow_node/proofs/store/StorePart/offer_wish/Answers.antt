use Rattle.std.proofs.Common.{sym, ap, ◌∙◌}
use Rattle.flow_item.specs.Lists.{first}
use Rattle.flow_node.specs.Parts.{store_kind, store_state}
use Rattle.flow_node.proofs.StoreLemmas.{one_offer, store-offers, no-offer}
use Rattle.flow_node.proofs.store.StorePart.offer_wish.Goals as goal

pub returns-in-None : goal.returns-in-None
returns-in-None c =
    let s = c.args.self.now in
    let xs = c.args.base.now.push.items in
    sym (store-offers c.args.base.now (store_kind s) (store_state s) xs ∙ ap (one_offer (first xs)) (sym c.in-None.ensures) ∙ no-offer (first xs))
