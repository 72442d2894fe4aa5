-- The print order of a node's items.
use Rattle.std.specs.Prelude.{ℕ, Bool, if◌then◌else◌, nat_lt, List, [], ◌∷◌}
use Rattle.flow_item.specs.declared.item.Item.{Item}
use Rattle.flow_item.specs.Values.{outranks}
use Rattle.flow_shape.specs.declared.Kind.{Kind}
use Rattle.flow_shape.specs.declared.Kind.TheVariants as K
use Rattle.flow_machine.specs.State.{Part, store_part, keeper_part, option_list}

-- x before the first y that doesn't go before it
abbrev pub insert_by : {X : Type 0} → (X → X → Bool) → X → List X → List X
insert_by before x [] = x ∷ []
insert_by before x (y ∷ ys) = if before y x then y ∷ insert_by before x ys else x ∷ y ∷ ys

-- in order, and otherwise as they stood
abbrev pub sorted_by : {X : Type 0} → (X → X → Bool) → List X → List X
sorted_by before [] = []
sorted_by before (x ∷ xs) = insert_by before x (sorted_by before xs)

abbrev pub ranks_before : Item → Item → Bool
ranks_before i j = outranks i.val j.val

abbrev pub tagged_before : Item → Item → Bool
tagged_before i j = nat_lt i.tag j.tag

-- the items of a store: the greatest first, by rising tag, or the oldest first
abbrev pub store_in_order : Kind → List Item → List Item
store_in_order K.Priority items = sorted_by ranks_before items
store_in_order K.Sequencer items = sorted_by tagged_before items
store_in_order k items = items

-- the items of a node in print order
abbrev pub items_in_order : Kind → Part → List Item
items_in_order k (store_part s) = store_in_order k s.items
items_in_order k (keeper_part v) = option_list v.value
items_in_order k p = []
