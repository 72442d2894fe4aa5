-- What the tests' calls of a store ask for.
use Rattle.std.proofs.Common.{◌≡◌, ◌≤◌, arith, ℕ, ◌+◌, suc, Bool, true, false, ◌&&◌, Option, Some, None, List, [], ◌∷◌, drop, slice_get, refl, sym, ap, subst, ◌∙◌, add-one, drop-cons, eq-eqb}
use Rattle.std.specs.Prelude.{nat_lt, nat_eq, is_none}
use Rattle.std.specs.List.{list_any}
use Rattle.std.proofs.lemmas.Option.{slice_get_within, get_or_from_slice_get}
use Rattle.flow_item.specs.declared.item.Item.{Item}
use Rattle.flow_item.specs.Lists.{first}
use Rattle.flow_shape.specs.declared.Kind.{Kind}
use Rattle.flow_machine.specs.declared.Claim.{Claim}
use Rattle.flow_machine.specs.State.{StoreState, Part, store_part}
use Rattle.flow_machine.specs.Enabled.{is_at, is_numbered, is_reserved}
use Rattle.flow_machine.specs.Offers.{when, store_front}
use Rattle.flow_machine.specs.After.{part_after_hold}
use Rattle.flow_store.specs.Stores.{may_go, goes, hold_room, is_new}

same-number : (n : ℕ) → nat_eq n n ≡ true
same-number n = eq-eqb n n refl

dropped : {X : Type 0} (xs : List X) (i : ℕ) (x : X) → slice_get xs i ≡ Some x → drop i xs ≡ x ∷ drop (i + 1) xs
dropped xs i x at = let lt = slice_get_within xs i x at in rw (add-one) (drop-cons xs i x lt ∙ ap (λ y. y ∷ drop (suc i) xs) (get_or_from_slice_get xs i x x at))

-- one more item has a lower number
pub new-more : (number : ℕ) (xs : List Item) (i : ℕ) (x : Item) (all : Bool) → slice_get xs i ≡ Some x → nat_lt x.id.no number ≡ true → is_new number (drop i xs) ≡ all → is_new number (drop (i + 1) xs) ≡ all
new-more number xs i x all at low h = sym (ap (λ b. b && is_new number (drop (i + 1) xs)) low) ∙ sym (ap (is_new number) (dropped xs i x at)) ∙ h

-- an item's number isn't lower
pub new-fails : (number : ℕ) (xs : List Item) (i : ℕ) (x : Item) (all : Bool) → slice_get xs i ≡ Some x → nat_lt x.id.no number ≡ false → is_new number (drop i xs) ≡ all → false ≡ all
new-fails number xs i x all at low h = sym (ap (λ b. b && is_new number (drop (i + 1) xs)) low) ∙ sym (ap (is_new number) (dropped xs i x at)) ∙ h

pub first-goes : (k : Kind) (p : Part) (i : Item) → first (may_go k p) ≡ Some i → goes k p i.id.no ≡ true
first-goes k p i h = by_list (may_go k p) h
  where
    by_list : (xs : List Item) → first xs ≡ Some i → list_any (is_numbered i.id.no) xs ≡ true
    by_list [] e = cc
    by_list (x ∷ xs) e = let same : x ≡ i = cc in rw (same, same-number i.id.no) refl

-- ---- a store that locks one item

-- where an item may go, none is locked
pub free-before : (k : Kind) (p : Part) (s : StoreState) (x n : ℕ) → p ≡ store_part s → goes k p n ≡ true → is_reserved p x n ≡ false
free-before k p s x n is h = rw is (by_lock s.lock (subst (λ (q : Part). goes k q n ≡ true) is h))
  where
    by_lock : (o : Option Claim) → list_any (is_numbered n) (when (is_none o) (store_front k s.items s.next)) ≡ true → is_at o x n ≡ false
    by_lock None e = refl
    by_lock (Some c) e = cc

-- a hold takes no room there
pub no-hold-room : (p : Part) (s : StoreState) (n : ℕ) → p ≡ store_part s → hold_room p ≤ n
no-hold-room p s n is = rw is (omega arith)

-- the item that was locked is
pub held-then : (p : Part) (s : StoreState) (x n : ℕ) → p ≡ store_part s → is_reserved (part_after_hold p x n) x n ≡ true
held-then p s x n is = rw (is, same-number x, same-number n) refl
