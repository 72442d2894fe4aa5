use Rattle.std.proofs.Common.{Option, is_none, ◌<◌, length, refl, sym, ap, ◌∙◌, subst, arith, heap_items}
use Rattle.std.specs.Option.{option_map}
use Rattle.flow_item.specs.Lists.{first}
use Rattle.flow_machine.specs.State.{option_list}
use Rattle.flow_machine.specs.Offers.{when, first_greatest}
use Rattle.flow_store.specs.Stores.{RoomyRanks}
use Rattle.flow_store.specs.Orders.{by_age, Once, number_of}
use Rattle.flow_store.specs.declared.ranked.Locked.{Locked}
use Rattle.flow_store.specs.Ranks.{all_items, claim_of}
use Rattle.flow_store.proofs.RankSteps.{front-first, head-in}
use Rattle.flow_store.proofs.rank.RankStoreStore.front.Goals as goal

pub returns-in-Some-peek : goal.returns-in-Some-peek
returns-in-Some-peek c =
    let i = c.self.inside.ranks in
    let top = c.in-Some-peek in
    let some : 0 < length (heap_items i.heap) = omega (arith, top.ensures.variant.0 refl, i.heap.data.ok.0) in
    let once = subst (λ (o : Option Locked). Once number_of (all_items (heap_items i.heap) o)) c.in-None.is c.self.invariant.once in
    front-first (heap_items i.heap) top.top.now once (head-in (heap_items i.heap) top.top.now top.ensures.lookup some) (top.ensures.greatest c.self.invariant.ordered)
    ∙ ap (λ (o : Option Locked). first (when (is_none (option_map claim_of o)) (option_list (first_greatest (by_age (all_items (heap_items i.heap) o)))))) (sym c.in-None.is)
    ∙ ap (λ (v : RoomyRanks). first (when (is_none v.lock) (option_list (first_greatest v.items)))) c.self.view_is
