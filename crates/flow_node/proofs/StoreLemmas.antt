-- What a store offers, and what it has after its steps.
use Rattle.std.proofs.Common.{◌≡◌, ℕ, suc, ◌+◌, ◌<◌, ◌≤◌, ◌^◌, Bool, true, false, ◌&&◌, ◌||◌, cond, ltb, Option, Some, None, List, [], ◌∷◌, length, take, drop, filter, refl, ap, ◌∙◌, arith, eq-eqb}
use Rattle.std.specs.Prelude.{is_none, slice_get}
use Rattle.std.specs.Option.{option_map, option_or}
use Rattle.std.specs.List.{list_all, list_any, find}
use Rattle.std.proofs.lemmas.Bool.{ltb-true, lt-ltb, leb-true, le-leb}
use Rattle.std.proofs.lemmas.List.{length-append}
use Rattle.flow_item.specs.declared.val.Val.{Val}
use Rattle.flow_item.specs.declared.item.Item.{Item}
use Rattle.flow_item.specs.declared.item.Msg.{Msg}
use Rattle.flow_item.specs.declared.event.Ended.{Ended}
use Rattle.flow_item.specs.declared.event.Land.{Land}
use Rattle.flow_item.specs.declared.event.Land.TheVariants as L
use Rattle.flow_item.specs.Values.{outranks, same_item}
use Rattle.flow_item.specs.Lists.{first, drop_first}
use Rattle.flow_item.proofs.Tests.{and_left, and_right, both_true}
use Rattle.flow_item.proofs.Equal.{item-equal}
use Rattle.flow_shape.specs.declared.Kind.{Kind}
use Rattle.flow_shape.specs.declared.Kind.TheVariants as K
use Rattle.flow_shape.specs.Places.{Place}
use Rattle.flow_machine.specs.State.{StoreState, Part, store_part, option_list, item_of}
use Rattle.flow_machine.specs.Offers.{when, store_front, first_greatest, first_of_greater, part_candidates, lands}
use Rattle.flow_machine.specs.Enabled.{is_numbered}
use Rattle.flow_machine.specs.After.{next_tag, part_after_arrival, part_after_give, part_after_refuse, part_after_start, part_after_shut, part_after_cancel, part_after_end}
use Rattle.flow_machine.specs.PrintOrder.{insert_by, sorted_by, store_in_order, ranks_before, tagged_before}
use Rattle.flow_machine.specs.Wishes.{offer_wish}
use Rattle.flow_machine.specs.declared.Wish.{Wish}
use Rattle.flow_machine.specs.declared.Wish.TheVariants as W
use Rattle.flow_store.specs.Stores.{may_go, is_new, tag_after, after_put}
use Rattle.flow_node.specs.Parts.{takes_in, with_item}
use Rattle.flow_node.specs.Kept.{place_with, state_with, is_counted}
use Rattle.flow_node.specs.declared.base.Base.{Base}
use Rattle.flow_node.proofs.ListLemmas.{drop-at, all-append}

-- ---- offers

-- the offer of the first item that may go over the first edge in push
abbrev pub one_offer : Option ℕ → Option Item → Option Wish
one_offer None o = None
one_offer (Some x) None = None
one_offer (Some x) (Some i) = Some (W.Offer x i.id.no)

pub no-offer : (o : Option ℕ) → one_offer o None ≡ None
no-offer None = refl
no-offer (Some y) = refl

pub store-offers : (b : Base) (k : Kind) (s : StoreState) (xs : List ℕ) → offer_wish (place_with b k) (state_with b (store_part s)) xs ≡ one_offer (first xs) (first (may_go k (store_part s)))
store-offers b k s [] = refl
store-offers b k s (x ∷ xs) = by_first (first (may_go k (store_part s))) (store-offers b k s xs)
  where
    by_first : (o : Option Item) → offer_wish (place_with b k) (state_with b (store_part s)) xs ≡ one_offer (first xs) o
        → option_or (option_map (λ (i : Item). W.Offer x i.id.no) o) (offer_wish (place_with b k) (state_with b (store_part s)) xs) ≡ one_offer (Some x) o
    by_first None h = h ∙ no-offer (first xs)
    by_first (Some i) h = refl

-- ---- one item by its number

-- a first member that passes is found
pub front-found : {X : Type 0} (p : X → Bool) (xs : List X) (x : X) → Some x ≡ find p (option_list (first xs)) → Some x ≡ find p xs
front-found p [] x h = cc
front-found {X} p (y ∷ ys) x h = by_test (p y) h
  where
    by_test : (b : Bool) → Some x ≡ cond b (Some y) None → Some x ≡ cond b (Some y) (find p ys)
    by_test true h = h
    by_test false h = cc

pub few-queue : (p : Item → Bool) (b : Bool) (items : List Item) → find p (option_list (first (when b (take 1 items)))) ≡ find p (when b (take 1 items))
few-queue p true [] = refl
few-queue p true (i ∷ is) = refl
few-queue p false items = refl

pub few-ranks : (p : Item → Bool) (b : Bool) (o : Option Item) → find p (option_list (first (when b (option_list o)))) ≡ find p (when b (option_list o))
few-ranks p true None = refl
few-ranks p true (Some i) = refl
few-ranks p false o = refl

module _ {X : Type 0} (p : X → Bool) (xs : List X) (k : ℕ) (x : X) (at : slice_get xs k ≡ Some x) where
  pub find-at : p x ≡ true → find p (drop k xs) ≡ Some x
  find-at h = rw (drop-at xs k x at, h)

  pub find-later : p x ≡ false → find p (drop (k + 1) xs) ≡ find p (drop k xs)
  find-later h =
      let next : k + 1 ≡ suc k = omega arith in
      rw (next, drop-at xs k x at, h)

  pub find-kept_at : (q : X → Bool) → p x ≡ true → q x ≡ true → find p (filter q (drop k xs)) ≡ Some x
  find-kept_at q h g = rw (drop-at xs k x at, g, h)

  pub find-kept_later : (q : X → Bool) → (p x && q x) ≡ false → find p (filter q (drop (k + 1) xs)) ≡ find p (filter q (drop k xs))
  find-kept_later q h =
      let next : k + 1 ≡ suc k = omega arith in
      rw (next, drop-at xs k x at) (by_tests (p x) (q x) refl refl h)
    where
      by_tests : (b c : Bool) → p x ≡ b → q x ≡ c → (b && c) ≡ false → find p (filter q (drop (suc k) xs)) ≡ find p (cond (q x) (x ∷ filter q (drop (suc k) xs)) (filter q (drop (suc k) xs)))
      by_tests b false e f h = rw f
      by_tests true true e f h = cc
      by_tests false true e f h = rw (f, e)

-- ---- what may go is there

any-filter : {X : Type 0} (p q : X → Bool) (xs : List X) → list_any p (filter q xs) ≡ true → list_any p xs ≡ true
any-filter p q [] h = h
any-filter {X} p q (x ∷ xs) h = by_test (q x) h (any-filter p q xs)
  where
    or_true : (b : Bool) → (b || true) ≡ true
    or_true true = refl
    or_true false = refl

    later : (b : Bool) → (b || list_any p (filter q xs)) ≡ true → (list_any p (filter q xs) ≡ true → list_any p xs ≡ true) → (b || list_any p xs) ≡ true
    later true h r = refl
    later false h r = r h

    by_test : (b : Bool) → list_any p (cond b (x ∷ filter q xs) (filter q xs)) ≡ true → (list_any p (filter q xs) ≡ true → list_any p xs ≡ true) → (p x || list_any p xs) ≡ true
    by_test true h r = later (p x) h r
    by_test false h r = rw (r h) (or_true (p x))

any-take : {X : Type 0} (p : X → Bool) (xs : List X) → list_any p (take 1 xs) ≡ true → list_any p xs ≡ true
any-take p [] h = h
any-take {X} p (x ∷ xs) h = by_first (p x) h
  where
    by_first : (b : Bool) → (b || false) ≡ true → (b || list_any p xs) ≡ true
    by_first true h = refl
    by_first false h = cc

any-greatest : (p : Item → Bool) (xs : List Item) → list_any p (option_list (first_greatest xs)) ≡ true → list_any p xs ≡ true
any-greatest p [] h = h
any-greatest p (i ∷ is) h = by_best (first_greatest is) h (any-greatest p is)
  where
    here : (b r : Bool) → (b || false) ≡ true → (b || r) ≡ true
    here true r h = refl
    here false r h = cc

    later : (b r : Bool) → r ≡ true → (b || r) ≡ true
    later true r h = refl
    later false r h = h

    by_rank : (j : Item) (b : Bool) → list_any p (option_list (cond b (Some j) (Some i))) ≡ true → (list_any p (option_list (Some j)) ≡ true → list_any p is ≡ true) → (p i || list_any p is) ≡ true
    by_rank j true h r = later (p i) (list_any p is) (r h)
    by_rank j false h r = here (p i) (list_any p is) h

    by_best : (o : Option Item) → list_any p (option_list (first_of_greater i o)) ≡ true → (list_any p (option_list o) ≡ true → list_any p is ≡ true) → (p i || list_any p is) ≡ true
    by_best None h r = here (p i) (list_any p is) h
    by_best (Some j) h r = by_rank j (outranks j.val i.val) h r

any-front : (p : Item → Bool) (k : Kind) (items : List Item) (next : ℕ) → list_any p (store_front k items next) ≡ true → list_any p items ≡ true
any-front p (K.Buffer capacity) items next h = h
any-front p (K.Queue capacity) items next h = any-take p items h
any-front p K.Priority items next h = any-greatest p items h
any-front p K.Sequencer items next h = any-filter p _ items h
any-front p k items next h = cc

any-when : {X : Type 0} (b : Bool) (p : X → Bool) (xs : List X) → list_any p (when b xs) ≡ true → list_any p xs ≡ true
any-when true p xs h = h
any-when false p xs h = cc

-- an item of a list has its number there
pub same-numbered : (i : Item) (xs : List Item) → list_any (same_item i) xs ≡ true → list_any (is_numbered i.id.no) xs ≡ true
same-numbered i [] h = h
same-numbered i (j ∷ js) h = by_first (same_item i j) refl h (same-numbered i js)
  where
    or_true : (b : Bool) → (b || true) ≡ true
    or_true true = refl
    or_true false = refl

    by_first : (b : Bool) → same_item i j ≡ b → (b || list_any (same_item i) js) ≡ true → (list_any (same_item i) js ≡ true → list_any (is_numbered i.id.no) js ≡ true) → (is_numbered i.id.no j || list_any (is_numbered i.id.no) js) ≡ true
    by_first true e h later = let same : i ≡ j = item-equal i j e in rw (← same, eq-eqb i.id.no i.id.no refl)
    by_first false e h later = rw (later h) (or_true (is_numbered i.id.no j))

stored : (k : Kind) (s : StoreState) (i : ℕ) → list_any (is_numbered i) (when (is_none s.lock) (store_front k s.items s.next)) ≡ true → list_any (is_numbered i) s.items ≡ true
stored k s i h = any-front (is_numbered i) k s.items s.next (any-when (is_none s.lock) (is_numbered i) (store_front k s.items s.next) h)

-- ---- the numbers of its items

length-dropped : {X : Type 0} (p : X → Bool) (xs : List X) → list_any p xs ≡ true → suc (length (drop_first p xs)) ≡ length xs
length-dropped p [] h = cc
length-dropped p (x ∷ xs) h = by_first (p x) h (length-dropped p xs)
  where
    by_first : (b : Bool) → (b || list_any p xs) ≡ true → (list_any p xs ≡ true → suc (length (drop_first p xs)) ≡ length xs) → suc (length (cond b xs (x ∷ drop_first p xs))) ≡ suc (length xs)
    by_first true h later = refl
    by_first false h later = ap suc (later h)

all-dropped : {X : Type 0} (p q : X → Bool) (xs : List X) → list_all q xs ≡ true → list_all q (drop_first p xs) ≡ true
all-dropped p q [] h = h
all-dropped p q (x ∷ xs) h = by_first (p x) (all-dropped p q xs (and_right (q x) _ h))
  where
    by_first : (b : Bool) → list_all q (drop_first p xs) ≡ true → list_all q (cond b xs (x ∷ drop_first p xs)) ≡ true
    by_first true later = and_right (q x) _ h
    by_first false later = both_true (and_left (q x) _ h) later

new-more : (m n : ℕ) (items : List Item) → m ≤ n → is_new m items ≡ true → is_new n items ≡ true
new-more m n [] le h = refl
new-more m n (i ∷ is) le h =
    let below = ltb-true i.id.no m (and_left (ltb i.id.no m) _ h) in
    both_true (lt-ltb i.id.no n (omega (arith, below, le))) (new-more m n is le (and_right (ltb i.id.no m) _ h))

pub counted-new : (s : StoreState) (made : ℕ) → is_counted made (store_part s) ≡ true → is_new made s.items ≡ true
counted-new s made h = and_left (is_new made s.items) _ h

pub counted-more : (p : Part) (m n : ℕ) → m ≤ n → is_counted m p ≡ true → is_counted n p ≡ true
counted-more (store_part s) m n le h =
    let few = leb-true (s.next + length s.items) m (and_right (is_new m s.items) _ h) in
    both_true (new-more m n s.items le (and_left (is_new m s.items) _ h)) (le-leb (s.next + length s.items) n (omega (arith, few, le)))
counted-more p m n le h = refl

-- an item came, and isn't lost
pub counted-kept : (place : Place) (push : List ℕ) (p : Part) (port made tag n : ℕ) (val : Val) → is_counted made p ≡ true → is_counted (made + 1) (part_after_arrival place push p port (item_of n made tag val)) ≡ true
counted-kept place push (store_part s) port made tag n val h =
    let few = leb-true (s.next + length s.items) made (and_right (is_new made s.items) _ h) in
    let one = length-append s.items (item_of n made tag val ∷ []) in
    both_true (all-append (λ (i : Item). ltb i.id.no (made + 1)) s.items (item_of n made tag val ∷ []) (new-more made (made + 1) s.items (omega arith) (and_left (is_new made s.items) _ h)) (both_true (lt-ltb made (made + 1) (omega arith)) refl))
    (le-leb _ _ (omega (arith, few, one)))
counted-kept place push p port made tag n val h = refl

next-up : (k : Kind) (next : ℕ) → next_tag k next ≤ suc next
next-up K.Sequencer next = omega arith
next-up k next = omega arith

-- an item went
pub counted-given : (place : Place) (push : List ℕ) (x made i : ℕ) (p : Part) → list_any (is_numbered i) (part_candidates place push x p) ≡ true → is_counted made p ≡ true → is_counted made (part_after_give place.kind p x i) ≡ true
counted-given place push x made i (store_part s) may h =
    let few = leb-true (s.next + length s.items) made (and_right (is_new made s.items) _ h) in
    let less = length-dropped (is_numbered i) s.items (stored place.kind s i may) in
    let up = next-up place.kind s.next in
    both_true (all-dropped (is_numbered i) _ s.items (and_left (is_new made s.items) _ h)) (le-leb _ _ (omega (arith, few, less, up)))
counted-given place push x made i p may h = refl

-- the tag that a sequencer waits for then
pub given-fits : (place : Place) (push : List ℕ) (x made i : ℕ) (p : Part) → list_any (is_numbered i) (part_candidates place push x p) ≡ true → is_counted made p ≡ true → made ≤ 18446744073709551615 → tag_after place.kind p < 2 ^ 64
given-fits place push x made i (store_part s) may h most =
    let few = leb-true (s.next + length s.items) made (and_right (is_new made s.items) _ h) in
    let less = length-dropped (is_numbered i) s.items (stored place.kind s i may) in
    let up = next-up place.kind s.next in
    omega (arith, few, less, up, most)
given-fits place push x made i p may h most = omega arith

-- what neither brings an item nor gives one leaves a store as it is
module _ (made : ℕ) where
  pub counted-refused : (switching : Bool) (p : Part) (x : ℕ) → is_counted made p ≡ true → is_counted made (part_after_refuse switching p x) ≡ true
  counted-refused switching (store_part s) x h = h
  counted-refused switching p x h = refl

  pub counted-started : (p : Part) → is_counted made p ≡ true → is_counted made (part_after_start p) ≡ true
  counted-started (store_part s) h = h
  counted-started p h = refl

  pub counted-shut : (p : Part) (ended : Ended) → is_counted made p ≡ true → is_counted made (part_after_shut p ended) ≡ true
  counted-shut (store_part s) ended h = h
  counted-shut p ended h = refl

  pub counted-cancelled : (p : Part) → is_counted made p ≡ true → is_counted made (part_after_cancel p) ≡ true
  counted-cancelled (store_part s) h = h
  counted-cancelled p h = refl

  pub counted-ended : (place : Place) (p : Part) (i number : ℕ) (outs : List Msg) → is_counted made p ≡ true → is_counted made (part_after_end place p i number outs) ≡ true
  counted-ended place (store_part s) i number outs h = h
  counted-ended place p i number outs h = refl

-- ---- an item that comes

pub put-after : (k : Kind) (s : StoreState) (land : Land) (i : Item) → takes_in (lands land) ≡ true → after_put k (store_part s) land i ≡ store_part (with_item i s)
put-after k s L.Kept i h = refl
put-after k s L.Eaten i h = refl
put-after k s L.Over i h = refl
put-after k s L.Lost i h = cc

-- ---- the print order

length-insert : {X : Type 0} (test : X → X → Bool) (x : X) (ys : List X) → length (insert_by test x ys) ≡ suc (length ys)
length-insert test x [] = refl
length-insert test x (y ∷ ys) = by_test (test y x) (length-insert test x ys)
  where
    by_test : (b : Bool) → length (insert_by test x ys) ≡ suc (length ys) → length (cond b (y ∷ insert_by test x ys) (x ∷ y ∷ ys)) ≡ suc (suc (length ys))
    by_test true h = ap suc h
    by_test false h = refl

length-sorted : {X : Type 0} (test : X → X → Bool) (xs : List X) → length (sorted_by test xs) ≡ length xs
length-sorted test [] = refl
length-sorted test (x ∷ xs) = length-insert test x (sorted_by test xs) ∙ ap suc (length-sorted test xs)

pub length-in_order : (k : Kind) (items : List Item) → length (store_in_order k items) ≡ length items
length-in_order K.Priority items = length-sorted ranks_before items
length-in_order K.Sequencer items = length-sorted tagged_before items
length-in_order k items = refl
