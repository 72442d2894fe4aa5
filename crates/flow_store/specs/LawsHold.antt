-- That each state of a store keeps to the laws.
use Rattle.std.specs.Prelude.{◌≡◌, ℕ, Bool, true, false, ◌||◌, nat_eq, nat_lt, if◌then◌else◌, Option, Some, None, List, [], length, refl}
use Rattle.std.specs.List.{list_any}
use Rattle.flow_item.specs.declared.item.Item.{Item}
use Rattle.flow_item.specs.declared.event.Land.{Land}
use Rattle.flow_item.specs.declared.event.Land.TheVariants as L
use Rattle.flow_item.specs.declared.event.Cause.TheVariants as C
use Rattle.flow_shape.specs.declared.Kind.{Kind}
use Rattle.flow_shape.specs.declared.Kind.TheVariants as K
use Rattle.flow_machine.specs.State.{StoreState, KeeperState, store_part, keeper_part, option_list}
use Rattle.flow_machine.specs.declared.Claim.{Claim}
use Rattle.flow_machine.specs.Readers.{own_items}
use Rattle.flow_machine.specs.Offers.{lands, bars, room_under}
use Rattle.flow_store.specs.declared.store.Way.{Way}
use Rattle.flow_store.specs.Stores.{RoomyKeeper, keeper_of, is_by_caller, room_for, after_put}
use Rattle.flow_store.specs.Laws.{with_landed, PutsOne, GivesOne, HoldsOne}

-- nothing lands over another at a single-push store
if-not-over : (b : Bool) (n : ℕ) → (if b then lands L.Kept else bars (C.Full n)) ≡ lands L.Over → ⊥
if-not-over true n h = let never : ⊥ = cc in never
if-not-over false n h = let never : ⊥ = cc in never

under-not-over : (m : ℕ) (capacity : Option ℕ) → room_under m capacity ≡ lands L.Over → ⊥
under-not-over m None h = let never : ⊥ = cc in never
under-not-over m (Some n) h = if-not-over (nat_lt m n) n h

passed-not-over : (b by_caller : Bool) → (if b then (if by_caller then bars C.Duplicate else lands L.Lost) else lands L.Kept) ≡ lands L.Over → ⊥
passed-not-over true true h = let never : ⊥ = cc in never
passed-not-over true false h = let never : ⊥ = cc in never
passed-not-over false by_caller h = let never : ⊥ = cc in never

pub queue-puts : (capacity : Option ℕ) (s : StoreState) → PutsOne (K.Queue capacity) (store_part s)
queue-puts capacity s i way L.Kept h = refl
queue-puts capacity s i way L.Eaten h = refl
queue-puts capacity s i way L.Lost h = refl
queue-puts capacity s i way L.Over h = absurd (under-not-over (length s.items) capacity h)

pub buffer-puts : (capacity : Option ℕ) (s : StoreState) → PutsOne (K.Buffer capacity) (store_part s)
buffer-puts capacity s i way L.Kept h = refl
buffer-puts capacity s i way L.Eaten h = refl
buffer-puts capacity s i way L.Lost h = refl
buffer-puts capacity s i way L.Over h = absurd (under-not-over (length s.items) capacity h)

pub priority-puts : (s : StoreState) → PutsOne K.Priority (store_part s)
priority-puts s i way L.Kept h = refl
priority-puts s i way L.Eaten h = refl
priority-puts s i way L.Lost h = refl
priority-puts s i way L.Over h = absurd (under-not-over (length s.items) None h)

pub sequencer-puts : (s : StoreState) → PutsOne K.Sequencer (store_part s)
sequencer-puts s i way L.Kept h = refl
sequencer-puts s i way L.Eaten h = refl
sequencer-puts s i way L.Lost h = refl
sequencer-puts s i way L.Over h = absurd (passed-not-over (nat_lt i.tag s.next || list_any (λ (j : Item). nat_eq j.tag i.tag) s.items) (is_by_caller way) h)

-- a value is kept where there is none, and else lands over the one before
one-puts : (once : Bool) (value : Option Item) (holds : List Claim) (i : Item) (way : Way) (land : Land)
    → (room_for (if once then K.WriteOnce else K.Overwrite) (keeper_part record { value = value; owed = []; holds = holds }) i.tag way) ≡ lands land
    → own_items (after_put (if once then K.WriteOnce else K.Overwrite) (keeper_part record { value = value; owed = []; holds = holds }) land i) ≡ with_landed land (option_list value) i
one-puts once None holds i way L.Kept h = refl
one-puts once None holds i way L.Eaten h = refl
one-puts once None holds i way L.Lost h = refl
one-puts once None holds i way L.Over h = refl
one-puts true (Some j) holds i way land h = let never : ⊥ = cc in absurd never
one-puts false (Some j) holds i way L.Kept h = let never : ⊥ = cc in absurd never
one-puts false (Some j) holds i way L.Eaten h = let never : ⊥ = cc in absurd never
one-puts false (Some j) holds i way L.Lost h = refl
one-puts false (Some j) holds i way L.Over h = refl

pub keeper-puts : (v : RoomyKeeper) → PutsOne (if v.once then K.WriteOnce else K.Overwrite) (keeper_part (keeper_of v))
keeper-puts v = one-puts v.once v.value v.holds

pub store-gives : (k : Kind) (s : StoreState) → GivesOne k (store_part s)
store-gives k s x number = (refl, refl)

pub keeper-gives : (k : Kind) (v : KeeperState) → GivesOne k (keeper_part v)
keeper-gives k v x number = (refl, refl)

pub store-holds : (k : Kind) (s : StoreState) → HoldsOne k (store_part s)
store-holds k s x number = (refl, refl, λ single other. refl)

pub keeper-holds : (k : Kind) (v : KeeperState) → HoldsOne k (keeper_part v)
keeper-holds k v x number = (refl, refl, λ single other. absurd single)
