use Rattle.std.proofs.Common.{◌≡◌, map, true, [], ◌∷◌, ◌++◌, sym, ap, ◌∙◌, subst, arith, heap_items}
use Rattle.std.specs.Option.{option_map}
use Rattle.flow_machine.specs.State.{store_part}
use Rattle.flow_store.specs.Stores.{RoomyRanks, is_new}
use Rattle.flow_store.specs.Ranks.{ranked_item, all_items, claim_of}
use Rattle.flow_store.proofs.RankSteps.{Came, rank-came}
use Rattle.flow_store.proofs.rank.RankStoreStore.put.Goals as goal

came : (c : goal.After-push_ranked) → Came (all_items (heap_items c.self.inside.ranks.heap) c.self.inside.ranks.locked) (all_items (heap_items c.push_ranked.new.heap) c.self.inside.ranks.locked) c.args.item
came c =
    let i = c.self.inside.ranks in
    rank-came (map ranked_item (heap_items i.heap)) (map ranked_item (heap_items c.push_ranked.new.heap)) i.locked c.args.item c.self.invariant.once
    (subst (λ (v : RoomyRanks). is_new c.args.item.id.no v.items ≡ true) (sym c.self.view_is) c.requires.new) c.push_ranked.ensures.items

pub invariant_of-self : goal.invariant_of-self
invariant_of-self c =
    let i = c.self.inside.ranks in
    record {
      ordered = c.push_ranked.ensures.ordered;
      once = (came c).once;
      room =
          let spare = ap (λ (v : RoomyRanks). v.spare) c.self.view_is in
          omega (arith, c.push_ranked.ensures.len, c.push_ranked.ensures.capacity, c.self.invariant.room, c.requires.room);
      told = λ h. let never : ⊥ = cc in absurd never;
    }

pub returns-clause-after : goal.returns-clause-after
returns-clause-after c =
    ap (λ xs. store_part record { items = xs; lock = option_map claim_of c.self.inside.ranks.locked; next = 0 }) (came c).items
    ∙ ap (λ (v : RoomyRanks). store_part record { items = v.items ++ c.args.item ∷ []; lock = v.lock; next = 0 }) c.self.view_is
