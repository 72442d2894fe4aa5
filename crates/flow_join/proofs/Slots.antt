-- Slots with items and holes, and the places of a tag's items among them.
use Rattle.std.proofs.Common.{◌≡◌, ℕ, zero, suc, ◌+◌, ◌-◌, ◌<◌, ◌≤◌, Bool, true, false, not, ◌||◌, cond, nat_eq, Option, Some, None, List, [], ◌∷◌, ◌++◌, length, slice_get, slice_set, slice_index_or, refl, ap, sym, subst, ◌∙◌, arith, drop, is_some}
use Rattle.std.proofs.lemmas.Bool.{eqb-true}
use Rattle.std.proofs.lemmas.List.{append-nil, length-drop}
use Rattle.std.specs.List.{list_any}
use Rattle.flow_item.specs.declared.item.Item.{Item}
use Rattle.flow_item.specs.Lists.{is_empty, first, drop_first, places}
use Rattle.flow_machine.specs.Offers.{with_tag}
use Rattle.flow_machine.specs.After.{has_tag}
use Rattle.flow_join.specs.Tags.{filled, holds_tag, is_hole, is_item, all_places}
use Rattle.flow_join.specs.declared.tags.Places.{Places}

pub places-push : {X : Type 0} (p : X → Bool) (n : ℕ) (xs : List X) (x : X) → places p n (xs ++ x ∷ []) ≡ places p n xs ++ cond (p x) ((n + length xs) ∷ []) []
places-push p n [] x = by_test (p x)
  where
    by_test : (b : Bool) → cond b (n ∷ []) [] ≡ cond b ((n + 0) ∷ []) []
    by_test true = let e : n ≡ n + 0 = omega arith in ap (λ k. k ∷ []) e
    by_test false = refl
places-push p n (y ∷ xs) x =
    let e : suc n + length xs ≡ n + suc (length xs) = omega arith in
    by_test (p y) (places-push p (suc n) xs x ∙ ap (λ k. places p (suc n) xs ++ cond (p x) (k ∷ []) []) e)
  where
    by_test : (b : Bool) → places p (suc n) (xs ++ x ∷ []) ≡ places p (suc n) xs ++ cond (p x) ((n + suc (length xs)) ∷ []) []
        → cond b (n ∷ places p (suc n) (xs ++ x ∷ [])) (places p (suc n) (xs ++ x ∷ [])) ≡ cond b (n ∷ places p (suc n) xs) (places p (suc n) xs) ++ cond (p x) ((n + suc (length xs)) ∷ []) []
    by_test true h = ap (λ ks. n ∷ ks) h
    by_test false h = h

pub filled-push : (xs : List (Option Item)) (i : Item) → filled (xs ++ Some i ∷ []) ≡ filled xs ++ i ∷ []
filled-push [] i = refl
filled-push (None ∷ xs) i = filled-push xs i
filled-push (Some j ∷ xs) i = ap (λ ys. j ∷ ys) (filled-push xs i)

-- a tag has an item where it has a place
pub has-places : (tag n : ℕ) (xs : List (Option Item)) → list_any (has_tag tag) (filled xs) ≡ not (is_empty (places (holds_tag tag) n xs))
has-places tag n [] = refl
has-places tag n (None ∷ xs) = has-places tag (suc n) xs
has-places tag n (Some i ∷ xs) = by_test (has_tag tag i) (has-places tag (suc n) xs)
  where
    by_test : (b : Bool) → list_any (has_tag tag) (filled xs) ≡ not (is_empty (places (holds_tag tag) (suc n) xs))
        → (b || list_any (has_tag tag) (filled xs)) ≡ not (is_empty (cond b (n ∷ places (holds_tag tag) (suc n) xs) (places (holds_tag tag) (suc n) xs)))
    by_test true h = refl
    by_test false h = h

-- a tag without a place has no item
pub none-first : (tag n : ℕ) (xs : List (Option Item)) → places (holds_tag tag) n xs ≡ [] → first (with_tag tag (filled xs)) ≡ None
none-first tag n [] h = refl
none-first tag n (None ∷ xs) h = none-first tag (suc n) xs h
none-first tag n (Some i ∷ xs) h = by_test (has_tag tag i) h (none-first tag (suc n) xs)
  where
    by_test : (b : Bool) → cond b (n ∷ places (holds_tag tag) (suc n) xs) (places (holds_tag tag) (suc n) xs) ≡ []
        → (places (holds_tag tag) (suc n) xs ≡ [] → first (with_tag tag (filled xs)) ≡ None) → first (cond b (i ∷ with_tag tag (filled xs)) (with_tag tag (filled xs))) ≡ None
    by_test true h later = cc
    by_test false h later = later h

-- the first place of a tag, and what is left where its item leaves
pub record Taken (tag n : ℕ) (xs : List (Option Item)) (k : ℕ) (ks : List ℕ) : Type 0 where
  pub slot : ℕ
  pub item : Item
  pub is : k ≡ n + slot
  pub within : slot < length xs
  pub at : slice_get xs slot ≡ Some (Some item)
  pub oldest : first (with_tag tag (filled xs)) ≡ Some item
  pub left : filled (slice_set xs slot None) ≡ drop_first (has_tag tag) (filled xs)
  pub own : places (holds_tag tag) n (slice_set xs slot None) ≡ ks
  pub others : (other : ℕ) → nat_eq tag other ≡ false → places (holds_tag other) n (slice_set xs slot None) ≡ places (holds_tag other) n xs

pub taken : (tag n : ℕ) (xs : List (Option Item)) (k : ℕ) (ks : List ℕ) → places (holds_tag tag) n xs ≡ k ∷ ks → Taken tag n xs k ks
taken tag n [] k ks h = cc
taken tag n (None ∷ xs) k ks h =
    let t = taken tag (suc n) xs k ks h in
    let i = t.is in
    let w = t.within in
    record { slot = suc t.slot; item = t.item; is = omega arith; within = omega arith; at = t.at; oldest = t.oldest; left = t.left; own = t.own; others = t.others }
taken tag n (Some i ∷ xs) k ks h = by_test (has_tag tag i) refl h (taken tag (suc n) xs k ks)
  where
    apart : (other : ℕ) → has_tag tag i ≡ true → nat_eq tag other ≡ false → has_tag other i ≡ false
    apart other e h = let same : i.tag ≡ tag = eqb-true i.tag tag e in subst (λ k. nat_eq k other ≡ false) (sym same) h

    by_test : (b : Bool) → has_tag tag i ≡ b → cond b (n ∷ places (holds_tag tag) (suc n) xs) (places (holds_tag tag) (suc n) xs) ≡ k ∷ ks
        → (places (holds_tag tag) (suc n) xs ≡ k ∷ ks → Taken tag (suc n) xs k ks) → Taken tag n (Some i ∷ xs) k ks
    by_test true e h later =
        let place : n ≡ k = cc in
        let rest : places (holds_tag tag) (suc n) xs ≡ ks = cc in
        record {
          slot = 0;
          item = i;
          is = omega arith;
          within = omega arith;
          at = refl;
          oldest = rw e refl;
          left = rw e refl;
          own = rest;
          others = λ other h. rw (apart other e h) refl;
        }
    by_test false e h later =
        let t = later h in
        let is = t.is in
        let w = t.within in
        record {
          slot = suc t.slot;
          item = t.item;
          is = omega arith;
          within = omega arith;
          at = t.at;
          oldest = rw e t.oldest;
          left = rw e (ap (λ ys. i ∷ ys) t.left);
          own = rw e t.own;
          others = λ other h. ap (λ ks. cond (has_tag other i) (n ∷ ks) ks) (t.others other h);
        }

-- the item in the slot that the index of the ring names
pub slot-item : (xs : List (Option Item)) (j : ℕ) (o : Option Item) (d : Option Item) → slice_get xs j ≡ Some o → slice_index_or xs j d ≡ o
slot-item [] j o d h = cc
slot-item (x ∷ xs) zero o d h = cc
slot-item (x ∷ xs) (suc j) o d h = slot-item xs j o d h

pub places-some : (o : Option Places) → is_some o ≡ not (is_empty (all_places o))
places-some None = refl
places-some (Some p) = refl

-- the places after an item came
pub pushed : (f g : ℕ → List ℕ) (base : ℕ) (xs : List (Option Item)) (i : Item) → ((t : ℕ) → f t ≡ places (holds_tag t) base xs)
    → g i.tag ≡ f i.tag ++ (base + length xs) ∷ [] → ((t : ℕ) → nat_eq i.tag t ≡ false → g t ≡ f t) → (t : ℕ) → g t ≡ places (holds_tag t) base (xs ++ Some i ∷ [])
pushed f g base xs i queued own others t = by_test (nat_eq i.tag t) refl ∙ sym (places-push (holds_tag t) base xs (Some i))
  where
    by_test : (b : Bool) → nat_eq i.tag t ≡ b → g t ≡ places (holds_tag t) base xs ++ cond b ((base + length xs) ∷ []) []
    by_test true e =
        let same : i.tag ≡ t = eqb-true i.tag t e in
        subst (λ k. g k ≡ places (holds_tag k) base xs ++ (base + length xs) ∷ []) same (own ∙ ap (λ ks. ks ++ (base + length xs) ∷ []) (queued i.tag))
    by_test false e = others t e ∙ queued t ∙ sym (append-nil (places (holds_tag t) base xs))

-- the places after the oldest item of a tag left
pub popped : (f g : ℕ → List ℕ) (tag base : ℕ) (xs : List (Option Item)) (k : ℕ) (took : Taken tag base xs k (g tag)) → ((t : ℕ) → f t ≡ places (holds_tag t) base xs)
    → ((t : ℕ) → nat_eq tag t ≡ false → g t ≡ f t) → (t : ℕ) → g t ≡ places (holds_tag t) base (slice_set xs took.slot None)
popped f g tag base xs k took queued others t = by_test (nat_eq tag t) refl
  where
    by_test : (b : Bool) → nat_eq tag t ≡ b → g t ≡ places (holds_tag t) base (slice_set xs took.slot None)
    by_test true e = subst (λ u. g u ≡ places (holds_tag u) base (slice_set xs took.slot None)) (eqb-true tag t e) (sym took.own)
    by_test false e = others t e ∙ queued t ∙ sym (took.others t e)

pub hole-some : (xs : List (Option Item)) → is_hole (first xs) ≡ true → 0 < length xs
hole-some [] h = cc
hole-some (x ∷ xs) h = omega arith

-- the slots without a hole that was first
pub hole-filled : (xs ys : List (Option Item)) → is_hole (first xs) ≡ true → ys ≡ drop 1 xs → filled ys ≡ filled xs
hole-filled [] ys h e = cc
hole-filled (None ∷ xs) ys h e = ap filled e
hole-filled (Some i ∷ xs) ys h e = cc

pub hole-places : (tag n : ℕ) (xs ys : List (Option Item)) → is_hole (first xs) ≡ true → ys ≡ drop 1 xs → places (holds_tag tag) (n + 1) ys ≡ places (holds_tag tag) n xs
hole-places tag n [] ys h e = cc
hole-places tag n (None ∷ xs) ys h e = let next : n + 1 ≡ suc n = omega arith in ap (λ k. places (holds_tag tag) k ys) next ∙ ap (places (holds_tag tag) (suc n)) e
hole-places tag n (Some i ∷ xs) ys h e = cc

pub inner : {X : Type 0} (x y : X) → Some (Some x) ≡ Some (Some y) → Some x ≡ Some y
inner x y h = cc
