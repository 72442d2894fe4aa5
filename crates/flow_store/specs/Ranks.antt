-- The items of a priority node in a heap.
use Rattle.std.specs.Prelude.{◌≡◌, ℕ, ◌+◌, ◌≤◌, Bool, true, Option, Some, None, List, ◌++◌, map}
use Rattle.std.specs.Option.{option_map}
use Rattle.std.specs.BinaryHeap.{IsHeap}
use Rattle.flow_item.specs.declared.item.Item.{Item}
use Rattle.flow_machine.specs.declared.Claim.{Claim}
use Rattle.flow_machine.specs.State.{option_list}
use Rattle.flow_store.specs.declared.ranked.Ranked.{Ranked}
use Rattle.flow_store.specs.declared.ranked.Mark.{Mark}
use Rattle.flow_store.specs.declared.ranked.Locked.{Locked}
use Rattle.flow_store.specs.Orders.{number_of, Once}
use Rattle.flow_store.specs.RankOrder.{ranked_cmp}
use Rattle.flow_store.specs.Marks.{TellsRanks}

abbrev pub ranked_item : Ranked → Item
ranked_item r = r.item

abbrev pub locked_item : Locked → Item
locked_item l = l.item

-- the items of the heap, and the one that is locked
abbrev pub all_items : List Ranked → Option Locked → List Item
all_items heap locked = map ranked_item heap ++ option_list (option_map locked_item locked)

abbrev pub claim_of : Locked → Claim
claim_of l = record { edge = l.edge; item = l.item.id.no }

-- the number of locked items
abbrev pub locked_count : Option Locked → ℕ
locked_count None = 0
locked_count (Some l) = 1

-- what a heap keeps: its order, no number twice, and room for the item that is locked; where the marks are sorted, they tell the order of the ranks
pub record KeepsRanks (heap : List Ranked) (locked : Option Locked) (len capacity : ℕ) (marks : List Mark) (sorted : Bool) : Type 0 where
  pub ordered : IsHeap ranked_cmp heap
  pub once : Once number_of (all_items heap locked)
  pub room : len + locked_count locked ≤ capacity
  pub told : sorted ≡ true → TellsRanks marks (all_items heap locked)
