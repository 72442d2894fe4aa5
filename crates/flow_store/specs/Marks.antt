-- Marks of the items of a priority node, and the order of the items that sorted marks tell.
use Rattle.std.specs.Prelude.{◌≡◌, ℕ, suc, Some, List, [], ◌∷◌, map, slice_get}
use Rattle.flow_item.specs.declared.item.Item.{Item}
use Rattle.flow_machine.specs.PrintOrder.{sorted_by, ranks_before}
use Rattle.flow_store.specs.declared.ranked.Mark.{Mark}
use Rattle.flow_store.specs.Orders.{rank_of, by_age}

abbrev pub mark_of : ℕ → Item → Mark
mark_of place i = record { rank = record { 0 = rank_of i.val }; no = i.id.no; place = place }

-- the marks of items of which the first stands at this place
abbrev pub marks_from : ℕ → List Item → List Mark
marks_from place [] = []
marks_from place (i ∷ is) = mark_of place i ∷ marks_from (suc place) is

-- the items by their ranks
abbrev pub by_rank : List Item → List Item
by_rank items = sorted_by ranks_before (by_age items)

-- the marks tell the places of the items in the order of their ranks
abbrev pub TellsRanks : List Mark → List Item → Type 0
TellsRanks marks items = map (λ (m : Mark). slice_get items m.place) marks ≡ map Some (by_rank items)
