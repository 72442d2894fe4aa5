use Rattle.std.proofs.Common.{ap, sym, ◌∙◌, slice_get, heap_items}
use Rattle.flow_machine.specs.PrintOrder.{sorted_by, ranks_before}
use Rattle.flow_store.specs.Stores.{RoomyRanks}
use Rattle.flow_store.specs.Ranks.{all_items}
use Rattle.flow_store.proofs.Ranking.{rank-place}
use Rattle.flow_store.proofs.Marking.{read-some, read-none}
use Rattle.flow_store.proofs.rank.RankStoreStore.at.Goals as goal

pub member-requires : goal.member-requires
member-requires c =
    let i = c.self.inside in
    let lookup = c.in-Some.ensures.lookup in
    (read-some i.marks.items c.deref.result.now (all_items (heap_items i.ranks.heap) i.ranks.locked) c.args.k c.in-Some.mark.now (c.self.invariant.told c.if-self.true) c.deref.ensures.value lookup.0 lookup.1).1

pub returns-in-Some : goal.returns-in-Some
returns-in-Some c =
    let i = c.self.inside in
    let lookup = c.in-Some.ensures.lookup in
    let at = (read-some i.marks.items c.deref.result.now (all_items (heap_items i.ranks.heap) i.ranks.locked) c.args.k c.in-Some.mark.now (c.self.invariant.told c.if-self.true) c.deref.ensures.value lookup.0 lookup.1).0 in
    sym (at ∙ c.member.ensures)
    ∙ ap (λ (v : RoomyRanks). slice_get (sorted_by ranks_before v.items) c.args.k) c.self.view_is

pub returns-in-None : goal.returns-in-None
returns-in-None c =
    let i = c.self.inside in
    sym (read-none i.marks.items c.deref.result.now (all_items (heap_items i.ranks.heap) i.ranks.locked) c.args.k (c.self.invariant.told c.if-self.true) c.deref.ensures.value c.in-None.ensures.lookup.0)
    ∙ ap (λ (v : RoomyRanks). slice_get (sorted_by ranks_before v.items) c.args.k) c.self.view_is

pub returns-else-self : goal.returns-else-self
returns-else-self c =
    rank-place (all_items (heap_items c.self.inside.ranks.heap) c.self.inside.ranks.locked) c.args.k _ c.self.invariant.once c.nth.ensures
    ∙ ap (λ (v : RoomyRanks). slice_get (sorted_by ranks_before v.items) c.args.k) c.self.view_is
