-- The tags that are at each port, and the least of them.
use Rattle.std.proofs.Common.{◌≡◌, ℕ, ◌<◌, ◌≤◌, Bool, true, false, not, ◌&&◌, ◌||◌, cond, min, nat_eq, eq-eqb, true≢false, is_some, Option, Some, None, List, [], ◌∷◌, map, filter, length, slice_get, slice_index_or, refl, ap, sym, subst, ◌∙◌, arith}
use Rattle.std.proofs.lemmas.Bool.{eqb-true}
use Rattle.std.proofs.lemmas.List.{length-map}
use Rattle.std.specs.List.{list_any, list_all}
use Rattle.std.specs.Option.{unwrap_or}
use Rattle.std.specs.declared.cmp.Reverse.{Reverse}
use Rattle.flow_item.specs.declared.item.Item.{Item}
use Rattle.flow_item.specs.Lists.{is_empty, first}
use Rattle.flow_machine.specs.Offers.{fronts, with_tag, common_tags, least, lesser, matching_parts, tag_of}
use Rattle.flow_machine.specs.After.{has_tag}
use Rattle.flow_machine.specs.WishEvents.{where_some}
use Rattle.flow_join.specs.Tags.{RoomyPort}
use Rattle.flow_join.specs.Keys.{port_items, at_each, count_tag, IsLeastTag}
use Rattle.flow_join.proofs.Ports.{fronts-all, fronts-at, fronts-given, get-map, given}
use Rattle.flow_join.proofs.Changes.{get-map-get}

pub any-with : (tag : ℕ) (is : List Item) → list_any (has_tag tag) is ≡ not (is_empty (with_tag tag is))
any-with tag [] = refl
any-with tag (i ∷ is) = by_test (has_tag tag i) (any-with tag is)
  where
    by_test : (b : Bool) → list_any (has_tag tag) is ≡ not (is_empty (with_tag tag is)) → (b || list_any (has_tag tag) is) ≡ not (is_empty (cond b (i ∷ with_tag tag is) (with_tag tag is)))
    by_test true h = refl
    by_test false h = h

each-filled : (tag : ℕ) (ps : List RoomyPort) → at_each tag ps ≡ list_all (λ (is : List Item). not (is_empty (with_tag tag is))) (map port_items ps)
each-filled tag [] = refl
each-filled tag (p ∷ ps) = ap (λ (b : Bool). b && at_each tag ps) (any-with tag p.items) ∙ ap (λ (b : Bool). not (is_empty (with_tag tag p.items)) && b) (each-filled tag ps)

all-through : (tag : ℕ) (iss : List (List Item)) → list_all (λ (is : List Item). not (is_empty (with_tag tag is))) iss ≡ list_all (λ (is : List Item). not (is_empty is)) (map (with_tag tag) iss)
all-through tag [] = refl
all-through tag (is ∷ iss) = ap (λ (b : Bool). not (is_empty (with_tag tag is)) && b) (all-through tag iss)

-- a tag is at each port where the ports without the others have fronts
pub each-fronts : (tag : ℕ) (ps : List RoomyPort) → at_each tag ps ≡ is_some (fronts (map (with_tag tag) (map port_items ps)))
each-fronts tag ps = each-filled tag ps ∙ all-through tag (map port_items ps) ∙ sym (fronts-all (map (with_tag tag) (map port_items ps)))

abbrev pub has_number : ℕ → List ℕ → Bool
has_number t ts = list_any (λ (x : ℕ). nat_eq x t) ts

and-false : (b : Bool) → (b && false) ≡ false
and-false true = refl
and-false false = refl

or-true : (b : Bool) → (b || true) ≡ true
or-true true = refl
or-true false = refl

in-filter : (good : ℕ → Bool) (t : ℕ) (is : List Item) → has_number t (filter good (map (λ (i : Item). i.tag) is)) ≡ (list_any (has_tag t) is && good t)
in-filter good t [] = refl
in-filter good t (i ∷ is) = by_test (nat_eq i.tag t) refl (good i.tag) refl (filter good (map (λ (j : Item). j.tag) is)) (list_any (has_tag t) is) (in-filter good t is)
  where
    by_test : (b : Bool) → nat_eq i.tag t ≡ b → (g : Bool) → good i.tag ≡ g → (ts : List ℕ) (any : Bool) → has_number t ts ≡ (any && good t)
        → has_number t (cond g (i.tag ∷ ts) ts) ≡ ((b || any) && good t)
    by_test true e true f ts any h = let same : i.tag ≡ t = eqb-true i.tag t e in let good' : good t ≡ true = ap good (sym same) ∙ f in ap (λ (b : Bool). b || has_number t ts) e ∙ sym good'
    by_test true e false f ts any h = let same : i.tag ≡ t = eqb-true i.tag t e in let good' : good t ≡ false = ap good (sym same) ∙ f in h ∙ ap (λ (g : Bool). any && g) good' ∙ and-false any ∙ sym good'
    by_test false e true f ts any h = ap (λ (b : Bool). b || has_number t ts) e ∙ h
    by_test false e false f ts any h = h

-- the tags that are at each port are the common ones
pub common-is : (ps : List RoomyPort) (t : ℕ) → 1 ≤ length ps → has_number t (common_tags (map port_items ps)) ≡ at_each t ps
common-is [] t some = absurd (omega arith)
common-is (p ∷ ps) t some =
    in-filter (λ u. list_all (λ (is : List Item). not (is_empty (with_tag u is))) (map port_items ps)) t p.items
    ∙ ap (λ (b : Bool). list_any (has_tag t) p.items && b) (sym (each-filled t ps))

-- some number is no more than t
abbrev IsAtMost : ℕ → Option ℕ → Type 0
IsAtMost t None = ⊥
IsAtMost t (Some n) = n ≤ t

least-le : (t : ℕ) (xs : List ℕ) → has_number t xs ≡ true → IsAtMost t (least xs)
least-le t [] h = absurd (true≢false (sym h))
least-le t (x ∷ xs) h = by_test (nat_eq x t) refl (least xs) h (least-le t xs)
  where
    by_test : (b : Bool) → nat_eq x t ≡ b → (o : Option ℕ) → (b || has_number t xs) ≡ true → (has_number t xs ≡ true → IsAtMost t o) → IsAtMost t (lesser x o)
    by_test true e None h later = let same : x ≡ t = eqb-true x t e in let here : x ≤ t = omega arith in here
    by_test true e (Some y) h later = let same : x ≡ t = eqb-true x t e in let here : min x y ≤ t = omega arith in here
    by_test false e None h later = absurd (later h)
    by_test false e (Some y) h later = let below : y ≤ t = later h in let here : min x y ≤ t = omega arith in here

has-here : (x : ℕ) (xs : List ℕ) → has_number x (x ∷ xs) ≡ true
has-here x xs = ap (λ (b : Bool). b || has_number x xs) (eq-eqb x x refl)

least-bound : (t : ℕ) (xs : List ℕ) → ((n : ℕ) → has_number n xs ≡ true → t ≤ n) → (n : ℕ) → least xs ≡ Some n → t ≤ n
least-bound t [] u n e = let never : ⊥ = cc in absurd never
least-bound t (x ∷ xs) u n e = by_least (least xs) e (u x (has-here x xs)) (least-bound t xs (λ m h. u m (ap (λ (b : Bool). nat_eq x m || b) h ∙ or-true (nat_eq x m))))
  where
    by_least : (o : Option ℕ) → lesser x o ≡ Some n → t ≤ x → ((m : ℕ) → o ≡ Some m → t ≤ m) → t ≤ n
    by_least None e below later = let same : x ≡ n = cc in omega arith
    by_least (Some y) e below later = let same : min x y ≡ n = cc in let other : t ≤ y = later y refl in omega arith

least-is : (xs : List ℕ) (t : ℕ) → has_number t xs ≡ true → ((n : ℕ) → has_number n xs ≡ true → t ≤ n) → least xs ≡ Some t
least-is xs t h u = by_least (least xs) (least-le t xs h) (least-bound t xs u)
  where
    by_least : (o : Option ℕ) → IsAtMost t o → ((n : ℕ) → o ≡ Some n → t ≤ n) → o ≡ Some t
    by_least None h u = absurd h
    by_least (Some n) h u = let upper : n ≤ t = h in let lower : t ≤ n = u n refl in let same : n ≡ t = omega arith in ap Some same

least-none : (xs : List ℕ) → ((n : ℕ) → has_number n xs ≡ false) → least xs ≡ None
least-none [] u = refl
least-none (x ∷ xs) u = absurd (true≢false (sym (has-here x xs) ∙ u x))

module _ (ps : List RoomyPort) (rs : List (Reverse ℕ)) (some : 1 ≤ length ps) (counted : (tag : ℕ) → count_tag tag rs ≡ cond (at_each tag ps) 1 0) where
  pub each-counted : (t : ℕ) → 0 < count_tag t rs → at_each t ps ≡ true
  each-counted t more = by_test (at_each t ps) (counted t)
    where
      by_test : (b : Bool) → count_tag t rs ≡ cond b 1 0 → b ≡ true
      by_test true e = refl
      by_test false e = let none : count_tag t rs ≡ 0 = e in absurd (omega arith)

  none-counted : (t : ℕ) → count_tag t rs ≡ 0 → at_each t ps ≡ false
  none-counted t none = by_test (at_each t ps) (counted t)
    where
      by_test : (b : Bool) → count_tag t rs ≡ cond b 1 0 → b ≡ false
      by_test true e = let one : count_tag t rs ≡ 1 = e in absurd (omega arith)
      by_test false e = refl

  counted-some : (t : ℕ) → at_each t ps ≡ true → 0 < count_tag t rs
  counted-some t h = let one : count_tag t rs ≡ 1 = counted t ∙ ap (λ (b : Bool). cond b 1 0) h in omega arith

  -- the least tag of the heap is that of the next tuple
  pub next-tag : (o : Option ℕ) → IsLeastTag rs o → least (common_tags (map port_items ps)) ≡ o
  next-tag None none = least-none (common_tags (map port_items ps)) (λ t. common-is ps t some ∙ none-counted t (none t))
  next-tag (Some x) found =
      least-is (common_tags (map port_items ps)) x (common-is ps x some ∙ each-counted x found.0) (λ n h. found.1 n (counted-some n (sym (common-is ps n some) ∙ h)))

  pub next-fronts : (x : ℕ) → IsLeastTag rs (Some x) → is_some (fronts (map (with_tag x) (map port_items ps))) ≡ true
  next-fronts x found = sym (each-fronts x ps) ∙ each-counted x found.0

  -- a tuple can be formed where the heap has a tag
  pub ready-is : (o : Option ℕ) → IsLeastTag rs o → is_some o ≡ is_some (matching_parts (map port_items ps) (least (common_tags (map port_items ps))))
  ready-is o found = by_tag o found ∙ ap (λ (t : Option ℕ). is_some (matching_parts (map port_items ps) t)) (sym (next-tag o found))
    where
      by_tag : (t : Option ℕ) → IsLeastTag rs t → is_some t ≡ is_some (matching_parts (map port_items ps) t)
      by_tag None h = refl
      by_tag (Some x) h = sym (next-fronts x h)

  pub heap-some : is_some (matching_parts (map port_items ps) (least (common_tags (map port_items ps)))) ≡ true → 0 < length rs
  heap-some h = by_items rs refl
    where
      by_items : (qs : List (Reverse ℕ)) → rs ≡ qs → 0 < length rs
      by_items [] e =
          let none : least (common_tags (map port_items ps)) ≡ None = next-tag None (λ t. ap (count_tag t) e) in
          absurd (true≢false (sym h ∙ ap (λ (t : Option ℕ). is_some (matching_parts (map port_items ps) t)) none))
      by_items (q ∷ qs) e = let long : length rs ≡ length (q ∷ qs) = ap length e in omega arith

  pub parts-are : (x : ℕ) → IsLeastTag rs (Some x) → matching_parts (map port_items ps) (least (common_tags (map port_items ps))) ≡ fronts (map (with_tag x) (map port_items ps))
  parts-are x found = ap (matching_parts (map port_items ps)) (next-tag (Some x) found)

  -- the part at a port is the port's oldest item of the tag
  pub part-of : (x : ℕ) → IsLeastTag rs (Some x) → (k : ℕ) (p : RoomyPort) → k < length ps → p ≡ slice_index_or ps k p
      → where_some (matching_parts (map port_items ps) (least (common_tags (map port_items ps)))) (λ parts. slice_get parts k) ≡ first (with_tag x p.items)
  part-of x found k p within at =
      ap (λ (o : Option (List Item)). where_some o (λ parts. slice_get parts k)) (parts-are x found) ∙ fronts-at (map (with_tag x) (map port_items ps)) k (next-fronts x found)
      ∙ ap (λ (o : Option (List Item)). where_some o first)
      (get-map-get (with_tag x) (map port_items ps) k p.items (get-map port_items ps k p within ∙ ap (λ (q : RoomyPort). Some q.items) (sym at)))

  -- the parts have the tag
  pub tag-is : (x : ℕ) → IsLeastTag rs (Some x) → tag_of (unwrap_or (matching_parts (map port_items ps) (least (common_tags (map port_items ps)))) []) ≡ x
  tag-is x found = ap (λ (o : Option (List Item)). tag_of (unwrap_or o [])) (parts-are x found) ∙ by_ports ps some (next-fronts x found)
    where
      first-tag : (is : List Item) → (iss : List (List Item)) → is_some (fronts (with_tag x is ∷ iss)) ≡ true → tag_of (given first (with_tag x is ∷ iss)) ≡ x
      first-tag [] iss h = absurd (true≢false (sym h))
      first-tag (i ∷ is) iss h = by_test (nat_eq i.tag x) refl h (first-tag is iss)
        where
          by_test : (b : Bool) → nat_eq i.tag x ≡ b → is_some (fronts (cond b (i ∷ with_tag x is) (with_tag x is) ∷ iss)) ≡ true
              → (is_some (fronts (with_tag x is ∷ iss)) ≡ true → tag_of (given first (with_tag x is ∷ iss)) ≡ x)
              → tag_of (given first (cond b (i ∷ with_tag x is) (with_tag x is) ∷ iss)) ≡ x
          by_test true e h later = eqb-true i.tag x e
          by_test false e h later = later h

      by_ports : (qs : List RoomyPort) → 1 ≤ length qs → is_some (fronts (map (with_tag x) (map port_items qs))) ≡ true → tag_of (unwrap_or (fronts (map (with_tag x) (map port_items qs))) []) ≡ x
      by_ports [] some h = absurd (omega arith)
      by_ports (q ∷ qs) some h = ap tag_of (fronts-given (map (with_tag x) (map port_items (q ∷ qs))) h) ∙ first-tag q.items (map (with_tag x) (map port_items qs)) h
