-- Rings of items, one at each port.
use Rattle.std.proofs.Common.{◌≡◌, ℕ, zero, suc, ◌+◌, ◌-◌, ◌<◌, ◌≤◌, Bool, true, false, not, ◌&&◌, nat_eq, is_some, Option, Some, None, List, [], ◌∷◌, ◌++◌, map, length, slice_get, slice_set, slice_index_or, refl, ap, sym, ◌∙◌, arith, add-one, append_assoc, Global, deque_len, deque_capacity, subst}
use Rattle.std.proofs.lemmas.Bool.Decides.{nat_tests}
use Rattle.std.proofs.lemmas.List.{map-append, length-map}
use Rattle.std.proofs.lemmas.List.Elements.{All-set}
use Rattle.std.specs.List.{list_all, All}
use Rattle.std.specs.Option.{unwrap_or}
use Rattle.std.specs.declared.collections.VecDeque.{VecDeque}
use Rattle.flow_item.specs.declared.item.Item.{Item}
use Rattle.flow_item.specs.Lists.{is_empty, first, rest, change_at}
use Rattle.flow_item.specs.Rooms.{Roomy, roomy}
use Rattle.flow_machine.specs.State.{option_list}
use Rattle.flow_machine.specs.Offers.{fronts, tag_of}
use Rattle.flow_machine.specs.WishEvents.{where_some}
use Rattle.flow_join.specs.Queues.{ring_items, is_filled, HasRoom, KeepsRings}
use Rattle.flow_join.proofs.Ports.{changed_to, changed_to-step, changed_to-at, given_to, given_to-step, given, map-set-change, get-map, fronts-all, fronts-given, fronts-some, fronts-at}

filled-is : (q : VecDeque Item Global) → is_filled q ≡ not (is_empty q.items)
filled-is q = by_items q.items q.len q.ok.0
  where
    positive : (n : ℕ) → 0 < n → nat_eq n 0 ≡ false
    positive n h = grind (arith, nat_tests)

    by_items : (xs : List Item) (n : ℕ) → n ≡ length xs → not (nat_eq n 0) ≡ not (is_empty xs)
    by_items [] n e = rw e refl
    by_items (x ∷ xs) n e = let some : 0 < n = omega arith in ap not (positive n some)

-- each ring has an item where there are fronts
pub all-filled : (qs : List (VecDeque Item Global)) → list_all is_filled qs ≡ is_some (fronts (map ring_items qs))
all-filled qs = each qs ∙ sym (fronts-all (map ring_items qs))
  where
    each : (qs : List (VecDeque Item Global)) → list_all is_filled qs ≡ list_all (λ xs. not (is_empty xs)) (map ring_items qs)
    each [] = refl
    each (q ∷ qs) = ap (λ b. b && list_all is_filled qs) (filled-is q) ∙ ap (λ b. not (is_empty q.items) && b) (each qs)

-- a list that grew by what one more port gives
pub grown : {Y : Type 0} (v w : Roomy Y) (ys before after more : List Y) (n i : ℕ) → v ≡ roomy (ys ++ before) (n - i) → w ≡ roomy (v.items ++ more) (v.spare - 1)
    → after ≡ before ++ more → w ≡ roomy (ys ++ after) (n - (i + 1))
grown v w ys before after more n i is was longer =
    let fewer : n - (i + 1) ≡ n - i - 1 = omega arith in
    let grouped : ys ++ (before ++ more) ≡ (ys ++ before) ++ more = sym (append_assoc ys before more) in
    was ∙ ap (λ (u : Roomy _). roomy (u.items ++ more) (u.spare - 1)) is ∙ (λ i. roomy (sym (ap (λ zs. ys ++ zs) longer ∙ grouped) i) (sym fewer i))

-- the same list, where all ports have given
pub grown-all : {Y : Type 0} (ys before after : List Y) (n i m : ℕ) → before ≡ after → i ≡ m → roomy (ys ++ before) (n - i) ≡ roomy (ys ++ after) (n - m)
grown-all ys before after n i m e f = λ j. roomy (ys ++ e j) (n - f j)

module _ (xss : List (List Item)) (rings : List (VecDeque Item Global)) (i : ℕ) (q : VecDeque Item Global) where
  -- the ring at the place that is next has what stood there at first
  pub ring-at : map ring_items rings ≡ changed_to rest i xss → i < length rings → q ≡ slice_index_or rings i q → slice_get xss i ≡ Some q.items
  ring-at same within at =
      sym (changed_to-at rest i xss) ∙ sym (ap (λ yss. slice_get yss i) same) ∙ get-map ring_items rings i q within ∙ ap (λ (r : VecDeque Item Global). Some r.items) (sym at)

  pub ring-some : is_some (fronts xss) ≡ true → map ring_items rings ≡ changed_to rest i xss → i < length rings → q ≡ slice_index_or rings i q → 0 < deque_len q
  ring-some ready same within at = let some = fronts-some xss i q.items ready (ring-at same within at) in let same' = q.ok.0 in omega arith

  pub ring-step : (p : VecDeque Item Global) → map ring_items rings ≡ changed_to rest i xss → q ≡ slice_index_or rings i q → p.items ≡ rest q.items
      → map ring_items (slice_set rings i p) ≡ changed_to rest (i + 1) xss
  ring-step p same at e =
      rw add-one (map-set-change ring_items rest rings i p q (e ∙ ap (λ (r : VecDeque Item Global). rest r.items) at) ∙ ap (change_at rest i) same ∙ changed_to-step rest i xss)

  pub given-step : {Y : Type 0} (f : Item → Y) → slice_get xss i ≡ Some q.items → map f (given_to first (i + 1) xss) ≡ map f (given_to first i xss) ++ map f (option_list (first q.items))
  given-step f at = rw (add-one, given_to-step first i xss, at) (map-append f (given_to first i xss) (option_list (first q.items)))

-- room stays where a ring has no more items and no less room than before
pub room-set : (rings : List (VecDeque Item Global)) (i m : ℕ) (q p : VecDeque Item Global) → i < length rings → q ≡ slice_index_or rings i q
    → deque_len p ≤ deque_len q → deque_capacity q ≤ deque_capacity p → All (HasRoom m) rings → All (HasRoom m) (slice_set rings i p)
room-set rings i m q p within at fewer more all =
    let here : HasRoom m q = subst (HasRoom m) (sym at) (all i q within) in
    All-set (HasRoom m) rings i p (omega arith) all

-- the part at a port is the first item of its ring
pub part-at : (rings : List (VecDeque Item Global)) (k : ℕ) (q : VecDeque Item Global) → is_some (fronts (map ring_items rings)) ≡ true → k < length rings → q ≡ slice_index_or rings k q
    → where_some (fronts (map ring_items rings)) (λ items. slice_get items k) ≡ first q.items
part-at rings k q ready within at =
    fronts-at (map ring_items rings) k ready ∙ ap (λ o. where_some o first) (get-map ring_items rings k q within ∙ ap (λ (r : VecDeque Item Global). Some r.items) (sym at))

-- the tag of the tuple is that of the first ring's first item
pub tag-first : (rings : List (VecDeque Item Global)) (q : VecDeque Item Global) → is_some (fronts (map ring_items rings)) ≡ true → 0 < length rings → q ≡ slice_index_or rings 0 q
    → tag_of (unwrap_or (fronts (map ring_items rings)) []) ≡ tag_of q.items
tag-first [] q ready within at = absurd (omega arith)
tag-first (r ∷ rs) q ready within at = by_items r.items ready (fronts-given (map ring_items (r ∷ rs)) ready) ∙ ap (λ (p : VecDeque Item Global). tag_of p.items) (sym at)
  where
    by_items : (xs : List Item) → is_some (fronts (xs ∷ map ring_items rs)) ≡ true → unwrap_or (fronts (xs ∷ map ring_items rs)) [] ≡ given first (xs ∷ map ring_items rs)
        → tag_of (unwrap_or (fronts (xs ∷ map ring_items rs)) []) ≡ tag_of xs
    by_items [] h e = cc
    by_items (x ∷ xs) h e = ap tag_of e

pub keeps-after : (rings rings' : List (VecDeque Item Global)) (spare : ℕ) → KeepsRings rings spare → length rings' ≡ length rings → ((m : ℕ) → All (HasRoom m) rings → All (HasRoom m) rings') → KeepsRings rings' spare
keeps-after rings rings' spare kept same room = record { some = let h = kept.some in omega arith; few = let h = kept.few in omega arith; room = room spare kept.room }

pub same-length : (rings rings' : List (VecDeque Item Global)) → map ring_items rings' ≡ map ring_items rings → length rings' ≡ length rings
same-length rings rings' e = sym (length-map rings' ring_items) ∙ ap length e ∙ length-map rings ring_items
