-- The orders of a store's items.
use Rattle.std.specs.Prelude.{◌≡◌, ℕ, ◌≤◌, Bool, true, not, ◌&&◌, ◌||◌, cond, nat_eq, nat_lt, ℤ, Option, Some, None, List, [], ◌∷◌, ◌⊎◌}
use Rattle.std.specs.List.{sum_by, count_by}
use Rattle.flow_item.specs.declared.val.Val.{Val}
use Rattle.flow_item.specs.declared.val.Val.TheVariants as V
use Rattle.flow_item.specs.declared.item.Item.{Item}
use Rattle.flow_item.specs.Values.{outranks}
use Rattle.flow_machine.specs.PrintOrder.{sorted_by}
use Rattle.flow_store.specs.declared.orders.Order.{Order}
use Rattle.flow_store.specs.declared.orders.Order.TheVariants as O

-- x is a member
abbrev pub In : {X : Type 0} → X → List X → Type 0
In z [] = ⊥
In z (x ∷ xs) = (z ≡ x) ⊎ In z xs

-- 1 where x has the number
abbrev pub mark : {X : Type 0} → (X → ℕ) → ℕ → X → ℕ
mark key n x = cond (nat_eq (key x) n) 1 0

-- no number is twice in the list
abbrev pub Once : {X : Type 0} → (X → ℕ) → List X → Type 0
Once {X} key xs = (n : ℕ) → sum_by (mark key n) xs ≤ 1

abbrev pub by_key : {X : Type 0} → (X → ℕ) → X → X → Bool
by_key key x y = nat_lt (key x) (key y)

abbrev pub number_of : Item → ℕ
number_of i = i.id.no

abbrev pub item_tag : Item → ℕ
item_tag i = i.tag

-- the items by their numbers, which is the order of arrival
abbrev pub by_age : List Item → List Item
by_age items = sorted_by (by_key number_of) items

-- a whole number ranks by its value, above all else
abbrev pub rank_of : Val → Option ℤ
rank_of (V.Int a) = Some a
rank_of v = None

-- the greater rank goes first, and of equal ranks the older item
abbrev pub goes_first : Item → Item → Bool
goes_first i j = outranks i.val j.val || (not (outranks j.val i.val) && nat_lt i.id.no j.id.no)

abbrev pub precedes : Order → Item → Item → Bool
precedes O.Age i j = by_key number_of i j
precedes O.Rank i j = goes_first i j
precedes O.Tag i j = by_key item_tag i j

-- how many of the list go before this one
abbrev pub ahead : {X : Type 0} → (X → X → Bool) → List X → X → ℕ
ahead before xs x = count_by (λ y. before y x) xs

-- x is the one with k of the list before it
abbrev pub IsNth : {X : Type 0} → (X → X → Bool) → List X → ℕ → X → Type 0
IsNth before xs k x = In x xs × (ahead before xs x ≡ k)

-- each member is before those after it
abbrev pub Rising : {X : Type 0} → (X → X → Bool) → List X → Type 0
Rising {X} before [] = Unit {0}
Rising {X} before (x ∷ xs) = ((z : X) → In z xs → before x z ≡ true) × Rising before xs
