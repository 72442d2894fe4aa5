-- The items of a sequencer under their tags.
use Rattle.std.specs.Prelude.{◌≡◌, ℕ, Bool, true, nat_eq, ◌&&◌, Option, Some, None, List, map}
use Rattle.std.specs.List.{All, list_any}
use Rattle.flow_item.specs.declared.item.Item.{Item}
use Rattle.flow_machine.specs.declared.Claim.{Claim}
use Rattle.flow_machine.specs.State.{StoreState}
use Rattle.flow_machine.specs.Enabled.{is_numbered}
use Rattle.flow_store.specs.Orders.{by_age, by_key, number_of, item_tag, Once, Rising}

abbrev pub entry_item : ℕ × Item → Item
entry_item e = e.1

abbrev pub tagged_items : List (ℕ × Item) → List Item
tagged_items es = map entry_item es

abbrev pub tag_state : List (ℕ × Item) → Option Claim → ℕ → StoreState
tag_state es lock next = record { items = by_age (tagged_items es); lock = lock; next = next }

-- the locked item is the one that is due
abbrev pub locks_due : Option Claim → ℕ → List Item → Bool
locks_due None next items = true
locks_due (Some c) next items = list_any (λ (i : Item). is_numbered c.item i && nat_eq i.tag next) items

-- what the entries keep: each is under its tag, no number and no tag is twice, the locked item is the one that is due, and where they are sorted the tags rise
pub record KeepsTags (es : List (ℕ × Item)) (lock : Option Claim) (next : ℕ) (sorted : Bool) : Type 0 where
  pub tagged : All (λ (e : ℕ × Item). e.0 ≡ e.1.tag) es
  pub once : Once number_of (tagged_items es)
  pub tags : Once item_tag (tagged_items es)
  pub due : locks_due lock next (tagged_items es) ≡ true
  pub rising : sorted ≡ true → Rising (by_key item_tag) (tagged_items es)
