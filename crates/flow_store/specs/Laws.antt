-- What every store keeps to.
use Rattle.std.specs.Prelude.{◌≡◌, ℕ, false, List, [], ◌∷◌, ◌++◌}
use Rattle.flow_item.specs.declared.item.Item.{Item}
use Rattle.flow_item.specs.declared.event.Land.{Land}
use Rattle.flow_item.specs.declared.event.Land.TheVariants as L
use Rattle.flow_item.specs.Lists.{drop_first}
use Rattle.flow_shape.specs.declared.Kind.{Kind}
use Rattle.flow_machine.specs.State.{Part, store_part}
use Rattle.flow_machine.specs.Offers.{lands}
use Rattle.flow_machine.specs.Enabled.{is_numbered}
use Rattle.flow_machine.specs.After.{part_after_give, part_after_hold, part_after_take, part_after_free}
use Rattle.flow_machine.specs.Readers.{own_items}
use Rattle.flow_store.specs.declared.store.Way.{Way}
use Rattle.flow_store.specs.Stores.{room_for, after_put, goes}

-- the items with one that landed
abbrev pub with_landed : Land → List Item → Item → List Item
with_landed L.Lost items i = items
with_landed L.Over items i = i ∷ []
with_landed land items i = items ++ i ∷ []

-- the items without the one that went: a kept value stays
abbrev pub without_gone : Part → ℕ → List Item
without_gone (store_part s) number = drop_first (is_numbered number) s.items
without_gone p number = own_items p

-- whether one item goes to one edge alone
abbrev pub IsSinglePush : Part → Type 0
IsSinglePush (store_part s) = Unit {0}
IsSinglePush p = ⊥

-- an accepted item that is lost leaves the items as they were, one that lands over a value takes its place, and any other stands last
abbrev pub PutsOne : Kind → Part → Type 0
PutsOne k p = (i : Item) (way : Way) (land : Land) → room_for k p i.tag way ≡ lands land → own_items (after_put k p land i) ≡ with_landed land (own_items p) i

-- what is given or taken leaves a single-push store, and nothing else does; nothing leaves a keeping one
abbrev pub GivesOne : Kind → Part → Type 0
GivesOne k p = (x number : ℕ) → (own_items (part_after_give k p x number) ≡ without_gone p number) × (own_items (part_after_take k p x number) ≡ without_gone p number)

-- what is held stays, also once it is freed; a single-push store gives nothing meanwhile
abbrev pub HoldsOne : Kind → Part → Type 0
HoldsOne k p = (x number : ℕ) → (own_items (part_after_hold p x number) ≡ own_items p) × (own_items (part_after_free false false (part_after_hold p x number) x number) ≡ own_items p)
    × (IsSinglePush p → (other : ℕ) → goes k (part_after_hold p x number) other ≡ false)
