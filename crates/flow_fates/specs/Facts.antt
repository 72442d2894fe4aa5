-- What holds of a run's items, as facts of its journal.
use Rattle.std.specs.Prelude.{◌≡◌, ℕ, true, false, Some, List, ◌∷◌, ◌++◌, slice_get}
use Rattle.std.specs.List.{list_any}
use Rattle.flow_item.specs.declared.item.Id.{Id}
use Rattle.flow_item.specs.declared.item.Item.{Item}
use Rattle.flow_item.specs.declared.event.Event.{Event}
use Rattle.flow_item.specs.declared.event.Event.TheVariants as E
use Rattle.flow_item.specs.declared.event.Link.{Link}
use Rattle.flow_shape.specs.declared.Kind.{Kind}
use Rattle.flow_shape.specs.declared.Shape.{Shape}
use Rattle.flow_shape.specs.Kinds.{is_single_push}
use Rattle.flow_shape.specs.Wiring.{at_node}
use Rattle.flow_machine.specs.Machine.{state_of}
use Rattle.flow_fates.specs.Laws.{HasOneFate, HasLineage}
use Rattle.flow_fates.specs.Lineage.{numbered, is_born, all_parents}
use Rattle.flow_fates.specs.Reserved.{releases, moves_from, holds_nothing}

-- ---- at each moment of the run

-- each item that was born has exactly one fate, or its node keeps it once
abbrev pub ItemsHaveOneFate : Shape → List Event → Type 0
ItemsHaveOneFate shape es = (n : ℕ) (k : Kind) → slice_get shape.nodes n ≡ Some k → (i : ℕ) → HasOneFate shape es n k i

-- the parents of each item, their parents and so on come to an end
abbrev pub ItemsHaveLineages : Shape → List Event → Type 0
ItemsHaveLineages shape es = (i : Id) → HasLineage shape es i

-- ---- over the whole run

-- from a hold of a single-push node to the take or free of that edge and item, the node gives, holds, takes and frees no other
abbrev pub HoldsReserve : Shape → List Event → Type 0
HoldsReserve shape es =
    (before between later : List Event) (l : Link) (item : Item) (hand : ℕ) (e : Event) → es ≡ before ++ E.Hold l item hand ∷ (between ++ e ∷ later) → at_node shape l.from is_single_push ≡ true →
    list_any (releases l.from l.edge item.id.no) between ≡ false → moves_from l.from e ≡ true → releases l.from l.edge item.id.no e ≡ true

-- no hand, hold at a port or debt is left
abbrev pub NothingIsHeld : Shape → List Event → Type 0
NothingIsHeld shape es = (n : ℕ) (k : Kind) → slice_get shape.nodes n ≡ Some k → holds_nothing (state_of shape n k es).part ≡ true

-- each parent of an item was born
abbrev pub ParentsWereBorn : Shape → List Event → Type 0
ParentsWereBorn shape es = all_parents (is_born shape es) (numbered shape es) ≡ true
