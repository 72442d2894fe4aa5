-- The ports of a key-matching join, where one of them or each of them changes.
use Rattle.std.proofs.Common.{◌≡◌, ℕ, zero, suc, ◌+◌, ◌<◌, ◌≤◌, Bool, true, false, ◌&&◌, ◌||◌, cond, nat_eq, true≢false, Option, Some, None, List, [], ◌∷◌, ◌++◌, map, length, replicate, slice_get, slice_set, slice_index_or, refl, ap, sym, subst, ◌∙◌, arith, add-one, is_some}
use Rattle.std.proofs.Math.ListN.{length-set}
use Rattle.std.proofs.Math.Seq.{map-set_same}
use Rattle.std.proofs.lemmas.Bool.{eqb-true}
use Rattle.std.proofs.lemmas.List.{map-append, length-map}
use Rattle.std.specs.List.{list_any, list_all}
use Rattle.std.specs.BinaryHeap.{heap_items, heap_len, heap_capacity, IsHeap}
use Rattle.std.specs.declared.cmp.Reverse.{Reverse}
use Rattle.std.specs.declared.collections.BinaryHeap.{BinaryHeap}
use Rattle.std.specs.declared.alloc.Global.{Global}
use Rattle.std.specs.Option.{unwrap_or}
use Rattle.flow_item.specs.declared.item.Item.{Item}
use Rattle.flow_item.specs.Lists.{first, drop_first, change_at}
use Rattle.flow_machine.specs.State.{option_list}
use Rattle.flow_machine.specs.Offers.{fronts, with_tag}
use Rattle.flow_machine.specs.After.{has_tag}
use Rattle.flow_machine.specs.WishEvents.{where_some}
use Rattle.flow_join.specs.Tags.{RoomyPort}
use Rattle.flow_join.specs.Keys.{port_items, at_each, least_first, count_tag, KeepsKeys}
use Rattle.flow_join.proofs.Ports.{changed_to, changed_to-at, changed_to-step, given_to, given_to-step, given_to-all, given, fronts-given, map-set-change, get-map}

module _ {X : Type 0} where
  pub get-index : (xs : List X) (i : ℕ) (x : X) → i < length xs → x ≡ slice_index_or xs i x → slice_get xs i ≡ Some x
  get-index [] i x within at = absurd (omega arith)
  get-index (y ∷ xs) zero x within at = ap (λ (z : X). Some z) (sym at)
  get-index (y ∷ xs) (suc i) x within at = get-index xs i x (omega arith) at

  pub get-set : (xs : List X) (i : ℕ) (y x : X) → slice_get (slice_set xs i y) i ≡ Some x → y ≡ x
  get-set [] i y x h = cc
  get-set (z ∷ xs) zero y x h = cc
  get-set (z ∷ xs) (suc i) y x h = get-set xs i y x h

  pub any-push : (q : X → Bool) (xs : List X) (x : X) → list_any q (xs ++ x ∷ []) ≡ (list_any q xs || q x)
  any-push q [] x = by_test (q x)
    where
      by_test : (b : Bool) → (b || false) ≡ (false || b)
      by_test true = refl
      by_test false = refl
  any-push q (y ∷ xs) x = by_test (q y) (any-push q xs x)
    where
      by_test : (b : Bool) → list_any q (xs ++ x ∷ []) ≡ (list_any q xs || q x) → (b || list_any q (xs ++ x ∷ [])) ≡ ((b || list_any q xs) || q x)
      by_test true h = refl
      by_test false h = h

  pub all-change : (q : X → Bool) (f : X → X) → ((x : X) → q (f x) ≡ q x) → (k : ℕ) (xs : List X) → list_all q (change_at f k xs) ≡ list_all q xs
  all-change q f h k [] = refl
  all-change q f h zero (x ∷ xs) = ap (λ (b : Bool). b && list_all q xs) (h x)
  all-change q f h (suc k) (x ∷ xs) = ap (λ (b : Bool). q x && b) (all-change q f h k xs)

  pub all-change-true : (q : X → Bool) (f : X → X) → ((x : X) → q x ≡ true → q (f x) ≡ true) → (k : ℕ) (xs : List X) → list_all q xs ≡ true → list_all q (change_at f k xs) ≡ true
  all-change-true q f h k [] all = all
  all-change-true q f h zero (x ∷ xs) all = by_test (q x) refl all
    where
      by_test : (b : Bool) → q x ≡ b → (b && list_all q xs) ≡ true → (q (f x) && list_all q xs) ≡ true
      by_test true e all = ap (λ (b : Bool). b && list_all q xs) (h x e) ∙ all
      by_test false e all = absurd (true≢false (sym all))
  all-change-true q f h (suc k) (x ∷ xs) all = by_test (q x) all (all-change-true q f h k xs)
    where
      by_test : (b : Bool) → (b && list_all q xs) ≡ true → (list_all q xs ≡ true → list_all q (change_at f k xs) ≡ true) → (b && list_all q (change_at f k xs)) ≡ true
      by_test true all later = later all
      by_test false all later = all

  pub all-map : (q : X → Bool) (f : X → X) → ((x : X) → q (f x) ≡ q x) → (xs : List X) → list_all q (map f xs) ≡ list_all q xs
  all-map q f h [] = refl
  all-map q f h (x ∷ xs) = ap (λ (b : Bool). b && list_all q (map f xs)) (h x) ∙ ap (λ (b : Bool). q x && b) (all-map q f h xs)

  pub all-at : (q : X → Bool) (xs : List X) (i : ℕ) (x : X) → list_all q xs ≡ true → slice_get xs i ≡ Some x → q x ≡ true
  all-at q [] i x all at = cc
  all-at q (y ∷ xs) i x all at = by_test (q y) refl all i at (λ j. all-at q xs j x)
    where
      by_test : (b : Bool) → q y ≡ b → (b && list_all q xs) ≡ true → (i : ℕ) → slice_get (y ∷ xs) i ≡ Some x → ((j : ℕ) → list_all q xs ≡ true → slice_get xs j ≡ Some x → q x ≡ true) → q x ≡ true
      by_test true e all zero at later = let same : y ≡ x = cc in subst (λ (z : X). q z ≡ true) same e
      by_test true e all (suc i) at later = later i all at
      by_test false e all i at later = absurd (true≢false (sym all))

module _ {X Y : Type 0} where
  pub get-map-get : (f : X → Y) (xs : List X) (i : ℕ) (x : X) → slice_get xs i ≡ Some x → slice_get (map f xs) i ≡ Some (f x)
  get-map-get f [] i x h = cc
  get-map-get f (y ∷ xs) zero x h = let same : y ≡ x = cc in ap (λ (z : X). Some (f z)) same
  get-map-get f (y ∷ xs) (suc i) x h = get-map-get f xs i x h

-- a tag at each port, by the items alone
pub each-items : (t : ℕ) (ps : List RoomyPort) → at_each t ps ≡ list_all (λ (is : List Item). list_any (has_tag t) is) (map port_items ps)
each-items t [] = refl
each-items t (p ∷ ps) = ap (λ (b : Bool). list_any (has_tag t) p.items && b) (each-items t ps)

pub each-same : (t : ℕ) (ps qs : List RoomyPort) → map port_items qs ≡ map port_items ps → at_each t qs ≡ at_each t ps
each-same t ps qs e = each-items t qs ∙ ap (list_all (λ (is : List Item). list_any (has_tag t) is)) e ∙ sym (each-items t ps)

module _ (ps qs : List RoomyPort) (item : Item) (k : ℕ) (came : map port_items qs ≡ change_at (λ (is : List Item). is ++ item ∷ []) k (map port_items ps)) where
  -- another tag is at each port as before an item came
  pub each-others : (t : ℕ) → nat_eq item.tag t ≡ false → at_each t qs ≡ at_each t ps
  each-others t apart =
      each-items t qs ∙ ap (list_all (λ (is : List Item). list_any (has_tag t) is)) came
      ∙ all-change (λ (is : List Item). list_any (has_tag t) is) (λ (is : List Item). is ++ item ∷ [])
      (λ is. any-push (has_tag t) is item ∙ ap (λ (b : Bool). list_any (has_tag t) is || b) apart ∙ or-false (list_any (has_tag t) is)) k (map port_items ps)
      ∙ sym (each-items t ps)
    where
      or-false : (b : Bool) → (b || false) ≡ b
      or-false true = refl
      or-false false = refl

  -- its own tag, if it was
  pub each-kept : at_each item.tag ps ≡ true → at_each item.tag qs ≡ true
  each-kept h =
      each-items item.tag qs ∙ ap (list_all (λ (is : List Item). list_any (has_tag item.tag) is)) came
      ∙ all-change-true (λ (is : List Item). list_any (has_tag item.tag) is) (λ (is : List Item). is ++ item ∷ [])
      (λ is here. any-push (has_tag item.tag) is item ∙ ap (λ (b : Bool). b || has_tag item.tag item) here) k (map port_items ps) (sym (each-items item.tag ps) ∙ h)

-- another tag's items stay where an item leaves
any-drop : (x t : ℕ) → nat_eq x t ≡ false → (is : List Item) → list_any (has_tag t) (drop_first (has_tag x) is) ≡ list_any (has_tag t) is
any-drop x t apart [] = refl
any-drop x t apart (i ∷ is) = by_test (nat_eq i.tag x) refl (any-drop x t apart is)
  where
    by_test : (b : Bool) → nat_eq i.tag x ≡ b → list_any (has_tag t) (drop_first (has_tag x) is) ≡ list_any (has_tag t) is
        → list_any (has_tag t) (cond b is (i ∷ drop_first (has_tag x) is)) ≡ (has_tag t i || list_any (has_tag t) is)
    by_test true e h =
        let same : i.tag ≡ x = eqb-true i.tag x e in
        let other : nat_eq i.tag t ≡ false = subst (λ (k : ℕ). nat_eq k t ≡ false) (sym same) apart in
        sym (ap (λ (b : Bool). b || list_any (has_tag t) is) other)
    by_test false e h = ap (λ (b : Bool). has_tag t i || b) h

pub each-dropped : (x : ℕ) (ps qs : List RoomyPort) → map port_items qs ≡ map (drop_first (has_tag x)) (map port_items ps) → (t : ℕ) → nat_eq x t ≡ false → at_each t qs ≡ at_each t ps
each-dropped x ps qs left t apart =
    each-items t qs ∙ ap (list_all (λ (is : List Item). list_any (has_tag t) is)) left
    ∙ all-map (λ (is : List Item). list_any (has_tag t) is) (drop_first (has_tag x)) (any-drop x t apart) (map port_items ps) ∙ sym (each-items t ps)

-- no tag is at empty ports
pub each-empty : (t n : ℕ) (p : RoomyPort) → p.items ≡ [] → 1 ≤ n → at_each t (replicate n p) ≡ false
each-empty t zero p e some = absurd (omega arith)
each-empty t (suc n) p e some = ap (λ (is : List Item). list_any (has_tag t) is && at_each t (replicate n p)) e

pub map-replicated : (n : ℕ) (p : RoomyPort) → p.items ≡ [] → map port_items (replicate n p) ≡ replicate n []
map-replicated zero p e = refl
map-replicated (suc n) p e = ap (λ (is : List Item). is ∷ map port_items (replicate n p)) e ∙ ap (λ (iss : List (List Item)). [] ∷ iss) (map-replicated n p e)

pub same-count : (ps qs : List RoomyPort) → map port_items qs ≡ map port_items ps → length qs ≡ length ps
same-count ps qs e = sym (length-map qs port_items) ∙ ap length e ∙ length-map ps port_items

pub dropped-count : (x : ℕ) (ps qs : List RoomyPort) → map port_items qs ≡ map (drop_first (has_tag x)) (map port_items ps) → length qs ≡ length ps
dropped-count x ps qs e = sym (length-map qs port_items) ∙ ap length e ∙ length-map (map port_items ps) (drop_first (has_tag x)) ∙ length-map ps port_items

-- what stays where room is made at one port
module _ (ps : List RoomyPort) (k : ℕ) (p q : RoomyPort) (was now : BinaryHeap (Reverse ℕ) Global) (r0 r1 : Option (ℕ × ℕ)) where
  pub reserved-items : p ≡ slice_index_or ps k p → q.items ≡ p.items → map port_items (slice_set ps k q) ≡ map port_items ps
  reserved-items at e = map-set_same port_items ps k q p (e ∙ ap port_items at)

  pub keeps-reserved : KeepsKeys ps was r0 → p ≡ slice_index_or ps k p → q.items ≡ p.items → heap_items now ≡ heap_items was
      → ((r : ℕ × ℕ) (s : RoomyPort) → r1 ≡ Some r → slice_get (slice_set ps k q) r.0 ≡ Some s → s.ready ≡ Some r.1) → ((r : ℕ × ℕ) → r1 ≡ Some r → heap_len now < heap_capacity now)
      → KeepsKeys (slice_set ps k q) now r1
  keeps-reserved kept at e heap ready room =
      let same = length-set ps k q in
      let some = kept.some in
      let few = kept.few in
      record {
        some = omega arith;
        few = omega arith;
        ordered = subst (IsHeap least_first) (sym heap) kept.ordered;
        counted = λ t. ap (count_tag t) heap ∙ kept.counted t ∙ ap (λ (b : Bool). cond b 1 0) (sym (each-same t ps (slice_set ps k q) (reserved-items at e)));
        ready = ready;
        room = room;
      }

-- the port that has room for a tag
pub ready-set : (ps : List RoomyPort) (k tag : ℕ) (q : RoomyPort) → q.ready ≡ Some tag → (r : ℕ × ℕ) (p : RoomyPort) → Some (k, tag) ≡ Some r → slice_get (slice_set ps k q) r.0 ≡ Some p → p.ready ≡ Some r.1
ready-set ps k tag q h r p e =
    let same : (k, tag) ≡ r = cc in
    subst (λ (s : ℕ × ℕ). slice_get (slice_set ps k q) s.0 ≡ Some p → p.ready ≡ Some s.1) same
    (λ at. subst (λ (s : RoomyPort). s.ready ≡ Some tag) (get-set ps k q p at) h)

module _ (xss : List (List Item)) (ports : List RoomyPort) (i : ℕ) (p : RoomyPort) (f : List Item → List Item) where
  -- the port at the place that is next has what stood there at first
  pub port-at : map port_items ports ≡ changed_to f i xss → i < length ports → p ≡ slice_index_or ports i p → slice_get xss i ≡ Some p.items
  port-at same within at =
      sym (changed_to-at f i xss) ∙ sym (ap (λ (yss : List (List Item)). slice_get yss i) same) ∙ get-map port_items ports i p within ∙ ap (λ (r : RoomyPort). Some r.items) (sym at)

  pub port-step : (q : RoomyPort) → map port_items ports ≡ changed_to f i xss → p ≡ slice_index_or ports i p → q.items ≡ f p.items
      → map port_items (slice_set ports i q) ≡ changed_to f (i + 1) xss
  port-step q same at e =
      rw add-one (map-set-change port_items f ports i q p (e ∙ ap (λ (r : RoomyPort). f r.items) at) ∙ ap (change_at f i) same ∙ changed_to-step f i xss)

pub given-next : {X Y Z : Type 0} (g : X → Option Y) (f : Y → Z) (i : ℕ) (xs : List X) (x : X) (y : Y) → slice_get xs i ≡ Some x → g x ≡ Some y
    → map f (given_to g (i + 1) xs) ≡ map f (given_to g i xs) ++ f y ∷ []
given-next {Y = Y} g f i xs x y at e =
    let more : map f (given_to g (i + 1) xs) ≡ map f (given_to g i xs) ++ map f (option_list (g x)) = rw (add-one, given_to-step g i xs, at) (map-append f (given_to g i xs) (option_list (g x))) in
    more ∙ ap (λ (o : Option Y). map f (given_to g i xs) ++ map f (option_list o)) e

-- all ports have given their oldest items of the tag
pub given-end : (tag i : ℕ) (xss : List (List Item)) → is_some (fronts (map (with_tag tag) xss)) ≡ true → i ≡ length xss
    → given_to (λ (is : List Item). first (with_tag tag is)) i xss ≡ unwrap_or (fronts (map (with_tag tag) xss)) []
given-end tag i xss h e = rw e (given_to-all (λ (is : List Item). first (with_tag tag is)) xss ∙ sym (through xss) ∙ sym (fronts-given (map (with_tag tag) xss) h))
  where
    through : (yss : List (List Item)) → given first (map (with_tag tag) yss) ≡ given (λ (is : List Item). first (with_tag tag is)) yss
    through [] = refl
    through (is ∷ yss) = ap (λ (more : List Item). option_list (first (with_tag tag is)) ++ more) (through yss)
