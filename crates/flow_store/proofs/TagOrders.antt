-- The orders of a sequencer's items, and what its entries keep at each step.
use Rattle.std.proofs.Common.{◌≡◌, ℕ, zero, suc, ◌+◌, ◌<◌, ◌≤◌, Bool, true, false, ◌||◌, ◌&&◌, cond, nat_eq, nat_lt, Option, Some, None, is_some, List, [], ◌∷◌, ◌++◌, map, length, get_or, slice_get, refl, sym, ap, ◌∙◌, subst, arith, inl, inr}
use Rattle.std.specs.Ordering.{nat_cmp, is_lt}
use Rattle.std.specs.List.{list_any, All, swap_remove}
use Rattle.std.specs.List.Sorted.{IsPermutation, IsSorted}
use Rattle.std.specs.Map.{lookup, keys_of, values_of}
use Rattle.std.specs.Option.{IsSome, IfSome, MatchOption, option_map}
use Rattle.std.specs.Bool.{if◌then◌else◌}
use Rattle.std.proofs.lemmas.Bool.{eqb-true, eq-eqb, lt-ltb, le-ltb}
use Rattle.std.proofs.lemmas.List.Folds.{list_any-append}
use Rattle.std.proofs.lemmas.List.Sorted.{IsPermutation-map, IsPermutation-swap_remove, All-permutation, list_any-IsPermutation}
use Rattle.std.proofs.lemmas.Option.{slice_get-map, get_or_from_slice_get}
use Rattle.std.proofs.lemmas.Map.Keys.{ge_from_not_lt}
use Rattle.flow_item.specs.declared.item.Item.{Item}
use Rattle.flow_item.specs.declared.event.Land.TheVariants as L
use Rattle.flow_item.specs.declared.event.Cause.TheVariants as C
use Rattle.flow_shape.specs.declared.Kind.TheVariants as K
use Rattle.flow_machine.specs.declared.Claim.{Claim}
use Rattle.flow_machine.specs.State.{store_part}
use Rattle.flow_machine.specs.Offers.{Room, lands, bars}
use Rattle.flow_machine.specs.Enabled.{is_numbered, is_reserved}
use Rattle.flow_machine.specs.PrintOrder.{sorted_by, tagged_before}
use Rattle.flow_store.specs.declared.orders.Order.TheVariants as O
use Rattle.flow_store.specs.declared.store.Way.{Way}
use Rattle.flow_store.specs.Stores.{goes, room_for, is_by_caller}
use Rattle.flow_store.specs.Orders.{In, Rising, Once, IsNth, ahead, precedes, by_age, by_key, number_of, item_tag}
use Rattle.flow_store.specs.Tags.{entry_item, tagged_items, tag_state, locks_due, KeepsTags}
use Rattle.flow_store.proofs.Rising.{in-sorted, sorted-in, once-differs, once-tail, once-permutation, once-rises, sorted-same, same-members, key-strict}
use Rattle.flow_store.proofs.Counting.{sum-sorted, nth-is}
use Rattle.flow_store.proofs.TagSteps.{Tagged, tagged-head, tagged-tail, map-more, once-sorted, lookup-some, lookup-none, due-number, due-there, CameTagged, WentTagged, tag-went}

-- ---- members that pass a test

pub any-in : {X : Type 0} (p : X → Bool) (xs : List X) (z : X) → In z xs → p z ≡ true → list_any p xs ≡ true
any-in p [] z k h = absurd k
any-in p (x ∷ xs) z (inl e) h = ap (λ b. b || list_any p xs) (ap p (sym e) ∙ h)
any-in p (x ∷ xs) z (inr k) h = by_first (p x) (any-in p xs z k h)
  where
    by_first : (b : Bool) → list_any p xs ≡ true → (b || list_any p xs) ≡ true
    by_first true h = refl
    by_first false h = h

any-none : {X : Type 0} (p : X → Bool) (xs : List X) → ((z : X) → In z xs → p z ≡ false) → list_any p xs ≡ false
any-none p [] h = refl
any-none p (x ∷ xs) h = rw (h x (inl refl)) (any-none p xs (λ z k. h z (inr k)))

any-some : {X : Type 0} (p : X → Bool) (xs : List X) → list_any p xs ≡ true → (z : X) × In z xs × (p z ≡ true)
any-some p [] h = let never : ⊥ = cc in absurd never
any-some {X} p (x ∷ xs) h = by_first (p x) refl h (λ k. any-some p xs k)
  where
    by_first : (b : Bool) → p x ≡ b → (b || list_any p xs) ≡ true → (list_any p xs ≡ true → (z : X) × In z xs × (p z ≡ true)) → (z : X) × In z (x ∷ xs) × (p z ≡ true)
    by_first true t h deep = (x, inl refl, t)
    by_first false t h deep = let later = deep h in (later.0, inr later.1, later.2)

-- whether an item of this tag is there
pub come-is : (n : ℕ) (es : List (ℕ × Item)) → Tagged es → is_some (lookup (nat_eq n) es) ≡ list_any (λ (i : Item). nat_eq i.tag n) (by_age (tagged_items es))
come-is n es h = by_found (lookup (nat_eq n) es) refl
  where
    by_found : (r : Option Item) → lookup (nat_eq n) es ≡ r → is_some (lookup (nat_eq n) es) ≡ list_any (λ (i : Item). nat_eq i.tag n) (by_age (tagged_items es))
    by_found None found =
        ap is_some found ∙ sym (any-none (λ (i : Item). nat_eq i.tag n) (by_age (tagged_items es)) (λ z k. lookup-none n es h found z (in-sorted (by_key number_of) z (tagged_items es) k)))
    by_found (Some i) found =
        let there = lookup-some n es i h found in
        ap is_some found ∙ sym (any-in (λ (j : Item). nat_eq j.tag n) (by_age (tagged_items es)) i (sorted-in (by_key number_of) i (tagged_items es) there.0) (eq-eqb i.tag n there.1))

come-before : (a b : Bool) → a ≡ true → a ≡ (a || b)
come-before true b h = refl
come-before false b h = let never : ⊥ = cc in absurd never

come-after : (a b : Bool) → a ≡ false → b ≡ (a || b)
come-after true b h = let never : ⊥ = cc in absurd never
come-after false b h = refl

-- a tag below the next one has come
pub come-low : (n next : ℕ) (b : Bool) → n < next → nat_lt n next ≡ (nat_lt n next || b)
come-low n next b low = come-before (nat_lt n next) b (lt-ltb n next low)

-- any other has come where its item is there
pub come-high : (n next : ℕ) (es : List (ℕ × Item)) → Tagged es → next ≤ n → is_some (lookup (nat_eq n) es) ≡ (nat_lt n next || list_any (λ (i : Item). nat_eq i.tag n) (by_age (tagged_items es)))
come-high n next es h high = come-is n es h ∙ come-after (nat_lt n next) _ (le-ltb n next high)

-- ---- room

abbrev tag_room : Bool → Bool → Room
tag_room come caller = if come then (if caller then bars C.Duplicate else lands L.Lost) else lands L.Kept

pub room-came : (come : Bool) (way brought : Way) → come ≡ true → way ≡ brought → tag_room true (is_by_caller brought) ≡ tag_room come (is_by_caller way)
room-came come way brought h w = ap (λ b. tag_room b (is_by_caller brought)) (sym h) ∙ ap (λ (v : Way). tag_room come (is_by_caller v)) (sym w)

pub room-new : (come caller : Bool) → come ≡ false → lands L.Kept ≡ tag_room come caller
room-new come caller h = ap (λ b. tag_room b caller) (sym h)

kept-new : (come caller : Bool) → lands L.Kept ≡ tag_room come caller → come ≡ false
kept-new false caller h = refl
kept-new true true h = let never : ⊥ = cc in absurd never
kept-new true false h = let never : ⊥ = cc in absurd never

or-false : (a b : Bool) → (a || b) ≡ false → b ≡ false
or-false true b h = let never : ⊥ = cc in absurd never
or-false false b h = h

-- no item has the tag of one that is kept
pub kept-absent : (n : ℕ) (es : List (ℕ × Item)) (lock : Option Claim) (next : ℕ) (way : Way) → Tagged es
    → lands L.Kept ≡ room_for K.Sequencer (store_part (tag_state es lock next)) n way → lookup (nat_eq n) es ≡ None
kept-absent n es lock next way h kept = by_found (lookup (nat_eq n) es) refl
  where
    there : is_some (lookup (nat_eq n) es) ≡ false
    there = come-is n es h ∙ or-false (nat_lt n next) _ (kept-new (nat_lt n next || list_any (λ (i : Item). nat_eq i.tag n) (by_age (tagged_items es))) (is_by_caller way) kept)

    by_found : (r : Option Item) → lookup (nat_eq n) es ≡ r → lookup (nat_eq n) es ≡ None
    by_found None found = found
    by_found (Some i) found = let never : true ≡ false = ap is_some (sym found) ∙ there in let no_way : ⊥ = cc in absurd no_way

-- ---- places

within-some : {X : Type 0} (xs : List X) (k : ℕ) → k < length xs → None ≡ slice_get xs k → ⊥
within-some [] k h e = omega (arith, h)
within-some (x ∷ xs) zero h e = cc
within-some (x ∷ xs) (suc k) h e = within-some xs k (omega (arith, h)) e

pub entry-at : (es : List (ℕ × Item)) (k : ℕ) (r : Option (ℕ × Item)) → r ≡ slice_get es k → option_map entry_item r ≡ slice_get (tagged_items es) k
entry-at es k r h = ap (option_map entry_item) h ∙ sym (slice_get-map entry_item es k)

pub entry-within : (es : List (ℕ × Item)) (k : ℕ) → k < length (tagged_items es) → None ≡ slice_get es k → ⊥
entry-within es k low none = within-some (tagged_items es) k low (entry-at es k None none)

pub tag-place : (xs : List Item) (k : ℕ) (r : Option Item) → Once item_tag xs → MatchOption r (All (λ x. ahead (precedes O.Tag) xs x ≡ k → ⊥) xs) (λ x. IsNth (precedes O.Tag) xs k x) → r ≡ slice_get (sorted_by tagged_before (by_age xs)) k
tag-place xs k r tags h =
    nth-is (by_key item_tag) (key-strict item_tag) xs (sorted_by tagged_before (by_age xs)) k r (once-rises item_tag (by_age xs) (once-sorted xs tags))
    (λ z m. sorted-in tagged_before z (by_age xs) (sorted-in (by_key number_of) z xs m))
    (λ z m. in-sorted (by_key number_of) z xs (in-sorted tagged_before z (by_age xs) m))
    (λ z. sym (sum-sorted tagged_before (λ y. cond (by_key item_tag y z) 1 0) (by_age xs) ∙ sum-sorted (by_key number_of) (λ y. cond (by_key item_tag y z) 1 0) xs)) h

-- items that rise by their tags stand in print order
pub rising-order : (xs : List Item) → Once item_tag xs → Rising (by_key item_tag) xs → xs ≡ sorted_by tagged_before (by_age xs)
rising-order xs tags rises =
    same-members (by_key item_tag) (key-strict item_tag) xs (sorted_by tagged_before (by_age xs)) rises (once-rises item_tag (by_age xs) (once-sorted xs tags))
    (λ z m. sorted-in tagged_before z (by_age xs) (sorted-in (by_key number_of) z xs m))
    (λ z m. in-sorted (by_key number_of) z xs (in-sorted tagged_before z (by_age xs) m))

-- ---- sorted keys

sorted-tail : (k : ℕ) (ks : List ℕ) → IsSorted nat_cmp (k ∷ ks) → IsSorted nat_cmp ks
sorted-tail k ks h i d low below =
    let up : suc i + 1 ≡ suc (i + 1) = omega arith in
    subst (λ n. is_lt (nat_cmp (get_or (k ∷ ks) n d) (get_or ks i d)) ≡ false) up (h (suc i) d (omega arith) (omega (arith, below)))

sorted-head : (k m : ℕ) (ks : List ℕ) → IsSorted nat_cmp (k ∷ m ∷ ks) → k ≤ m
sorted-head k m ks h =
    let up : 0 + 1 ≡ suc 0 = omega arith in
    ge_from_not_lt m k (subst (λ n. is_lt (nat_cmp (get_or (k ∷ m ∷ ks) n k) k) ≡ false) up (h 0 k (omega arith) (omega arith)))

head-least : (k : ℕ) (ks : List ℕ) (n : ℕ) → IsSorted nat_cmp (k ∷ ks) → In n ks → k ≤ n
head-least k [] n h i = absurd i
head-least k (m ∷ ks) n h (inl e) = let low = sorted-head k m ks h in omega (arith, low, e)
head-least k (m ∷ ks) n h (inr i) =
    let low = sorted-head k m ks h in
    let later = head-least m ks n (sorted-tail k (m ∷ ks) h) i in
    omega (arith, low, later)

in-tags : (z : Item) (xs : List Item) → In z xs → In z.tag (map item_tag xs)
in-tags z [] k = k
in-tags z (x ∷ xs) (inl e) = inl (ap item_tag e)
in-tags z (x ∷ xs) (inr k) = inr (in-tags z xs k)

sorted-rises : (xs : List Item) → Once item_tag xs → IsSorted nat_cmp (map item_tag xs) → Rising (by_key item_tag) xs
sorted-rises [] once h = tt
sorted-rises (x ∷ xs) once h = (
  λ z k. lt-ltb x.tag z.tag (strict x.tag z.tag (head-least x.tag (map item_tag xs) z.tag h (in-tags z xs k)) (λ e. once-differs item_tag x z xs once k e)),
  sorted-rises xs (once-tail item_tag x xs once) (sorted-tail x.tag (map item_tag xs) h),
)
  where
    strict : (m n : ℕ) → m ≤ n → (m ≡ n → ⊥) → m < n
    strict m n low apart = omega (arith, low, apart)

keys-tags : (es : List (ℕ × Item)) → Tagged es → keys_of es ≡ map item_tag (tagged_items es)
keys-tags [] h = refl
keys-tags (e ∷ es) h = ap (λ k. k ∷ keys_of es) (tagged-head e es h) ∙ ap (λ ks. e.1.tag ∷ ks) (keys-tags es (tagged-tail e es h))

-- ---- what the entries keep

pub keeps-none : (es : List (ℕ × Item)) (next : ℕ) (sorted : Bool) → es ≡ [] → KeepsTags es None next sorted
keeps-none es next sorted e =
    subst (λ fs. KeepsTags fs None next sorted) (sym e) record {
      tagged = λ k d below. absurd (omega (arith, below));
      once = λ n. omega arith;
      tags = λ n. omega arith;
      due = refl;
      rising = λ h. tt;
    }

due-same : (lock : Option Claim) (next : ℕ) (xs ys : List Item) → IsPermutation xs ys → locks_due lock next xs ≡ true → locks_due lock next ys ≡ true
due-same None next xs ys p h = refl
due-same (Some c) next xs ys p h = sym (list_any-IsPermutation (λ (i : Item). is_numbered c.item i && nat_eq i.tag next) xs ys p) ∙ h

-- entries that were sorted
pub keeps-sorted : (es fs : List (ℕ × Item)) (lock : Option Claim) (next : ℕ) (sorted : Bool) → KeepsTags es lock next sorted → IsPermutation es fs → IsSorted nat_cmp (keys_of fs) → KeepsTags fs lock next true
keeps-sorted es fs lock next sorted k p rises =
    let q : IsPermutation (tagged_items es) (tagged_items fs) = IsPermutation-map entry_item es fs p in
    let tagged : Tagged fs = All-permutation (λ (e : ℕ × Item). e.0 ≡ e.1.tag) es fs p k.tagged in
    let tags : Once item_tag (tagged_items fs) = once-permutation item_tag (tagged_items es) (tagged_items fs) q k.tags in
    record {
      tagged = tagged;
      once = once-permutation number_of (tagged_items es) (tagged_items fs) q k.once;
      tags = tags;
      due = due-same lock next (tagged_items es) (tagged_items fs) q k.due;
      rising = λ h. sorted-rises (tagged_items fs) tags (subst (λ ks. IsSorted nat_cmp ks) (keys-tags fs tagged) rises);
    }

pub age-stays : (es fs : List (ℕ × Item)) → Once number_of (tagged_items es) → IsPermutation es fs → by_age (tagged_items fs) ≡ by_age (tagged_items es)
age-stays es fs once p = sym (sorted-same number_of (tagged_items es) (tagged_items fs) (IsPermutation-map entry_item es fs p) once)

due-more : (lock : Option Claim) (next : ℕ) (xs : List Item) (x : Item) → locks_due lock next xs ≡ true → locks_due lock next (xs ++ x ∷ []) ≡ true
due-more None next xs x h = refl
due-more (Some c) next xs x h =
    let p : Item → Bool = λ i. is_numbered c.item i && nat_eq i.tag next in
    list_any-append p xs (x ∷ []) ∙ ap (λ b. b || list_any p (x ∷ [])) h

pub keeps-came : (es fs : List (ℕ × Item)) (lock : Option Claim) (next : ℕ) (sorted : Bool) (x : Item) → KeepsTags es lock next sorted → CameTagged es fs x → fs ≡ es ++ (x.tag, x) ∷ [] → KeepsTags fs lock next false
keeps-came es fs lock next sorted x k came e = record {
  tagged = came.tagged;
  once = came.once;
  tags = came.tags;
  due = subst (λ zs. locks_due lock next zs ≡ true) (sym (ap tagged_items e ∙ map-more es (x.tag, x))) (due-more lock next (tagged_items es) x k.due);
  rising = λ h. let never : ⊥ = cc in absurd never;
}

pub keeps-went : (es fs : List (ℕ × Item)) (next number : ℕ) → WentTagged es fs number → KeepsTags fs None next false
keeps-went es fs next number went = record {
  tagged = went.tagged;
  once = went.once;
  tags = went.tags;
  due = refl;
  rising = λ h. let never : ⊥ = cc in absurd never;
}

-- ---- an item that goes

-- what `remove_tagged` leaves
abbrev pub Removes : ℕ → List (ℕ × Item) → List (ℕ × Item) → Type 0
Removes n es fs = (e : ℕ × Item) × (lookup (nat_eq n) es ≡ Some e.1) × IsPermutation es (e ∷ fs)

-- by the place of the tag
pub removed : (n : ℕ) (es fs : List (ℕ × Item)) (place : ℕ) (r : Option (ℕ × Item)) → slice_get (values_of es) place ≡ lookup (nat_eq n) es → place < length es
    → r ≡ slice_get es place → IfSome r (λ (e : ℕ × Item). fs ≡ swap_remove es place e) → Removes n es fs
removed n es fs place None value below is left = absurd (within-some es place below is)
removed n es fs place (Some e) value below is left = (
  e,
  sym value ∙ slice_get-map (λ (d : ℕ × Item). d.1) es place ∙ ap (option_map (λ (d : ℕ × Item). d.1)) (sym is),
  subst (λ zs. IsPermutation es (e ∷ zs)) (sym left) (IsPermutation-swap_remove es place e below (sym (get_or_from_slice_get es place e e (sym is)))),
)

pub tag-missing : (r : Option ℕ) (o : Option Item) → r ≡ None → is_some r ≡ is_some o → IsSome o → ⊥
tag-missing r o none same some = let never : false ≡ true = ap is_some (sym none) ∙ same ∙ some in let no_way : ⊥ = cc in no_way

pub nothing-locked : (n : ℕ) (es : List (ℕ × Item)) (lock : Option Claim) (number : ℕ) → goes K.Sequencer (store_part (tag_state es lock n)) number ≡ true → lock ≡ None
nothing-locked n es None number may = refl
nothing-locked n es (Some l) number may = let never : ⊥ = cc in absurd never

pub tag-given : (n : ℕ) (es fs : List (ℕ × Item)) (lock : Option Claim) (sorted : Bool) (number : ℕ) → KeepsTags es lock n sorted
    → goes K.Sequencer (store_part (tag_state es lock n)) number ≡ true → Removes n es fs → WentTagged es fs number
tag-given n es fs lock sorted number k may r =
    tag-went es fs r.0 number k.tagged k.once k.tags r.2 (due-number n es lock r.0.1 number k.tagged k.tags r.1 may)

pub keeps-given : (n m : ℕ) (es fs : List (ℕ × Item)) (lock : Option Claim) (number : ℕ) → goes K.Sequencer (store_part (tag_state es lock n)) number ≡ true → WentTagged es fs number → KeepsTags fs lock m false
keeps-given n m es fs lock number may went = subst (λ (o : Option Claim). KeepsTags fs o m false) (sym (nothing-locked n es lock number may)) (keeps-went es fs m number went)

-- what may go is the item that a hold locks
pub due-held : (n : ℕ) (es : List (ℕ × Item)) (lock : Option Claim) (sorted : Bool) (edge number : ℕ) → KeepsTags es lock n sorted
    → goes K.Sequencer (store_part (tag_state es lock n)) number ≡ true → locks_due (Some record { edge = edge; item = number }) n (tagged_items es) ≡ true
due-held n es lock sorted edge number k may = by_found (lookup (nat_eq n) es) refl (due-there n es lock number k.tagged may)
  where
    by_found : (r : Option Item) → lookup (nat_eq n) es ≡ r → IsSome (lookup (nat_eq n) es) → locks_due (Some record { edge = edge; item = number }) n (tagged_items es) ≡ true
    by_found None found some = let never : true ≡ false = sym some ∙ ap is_some found in let no_way : ⊥ = cc in absurd no_way
    by_found (Some i) found some =
        let there = lookup-some n es i k.tagged found in
        let one : is_numbered number i ≡ true = eq-eqb i.id.no number (due-number n es lock i number k.tagged k.tags found may) in
        any-in (λ (j : Item). is_numbered number j && nat_eq j.tag n) (tagged_items es) i there.0 (ap (λ b. b && nat_eq i.tag n) one ∙ eq-eqb i.tag n there.1)

pub keeps-held : (n : ℕ) (es : List (ℕ × Item)) (lock : Option Claim) (sorted : Bool) (edge number : ℕ) → KeepsTags es lock n sorted
    → goes K.Sequencer (store_part (tag_state es lock n)) number ≡ true → KeepsTags es (Some record { edge = edge; item = number }) n sorted
keeps-held n es lock sorted edge number k may = record {
  tagged = k.tagged;
  once = k.once;
  tags = k.tags;
  due = due-held n es lock sorted edge number k may;
  rising = k.rising;
}

pub keeps-freed : (n : ℕ) (es : List (ℕ × Item)) (lock : Option Claim) (sorted : Bool) → KeepsTags es lock n sorted → KeepsTags es None n sorted
keeps-freed n es lock sorted k = record {
  tagged = k.tagged;
  once = k.once;
  tags = k.tags;
  due = refl;
  rising = k.rising;
}

once-same : {X : Type 0} (key : X → ℕ) (xs : List X) (y z : X) → Once key xs → In y xs → In z xs → key y ≡ key z → y ≡ z
once-same key [] y z once i k e = absurd i
once-same key (x ∷ xs) y z once (inl f) (inl g) e = f ∙ sym g
once-same key (x ∷ xs) y z once (inl f) (inr k) e = absurd (once-differs key x z xs once k (ap key (sym f) ∙ e))
once-same key (x ∷ xs) y z once (inr i) (inl g) e = absurd (once-differs key x y xs once i (ap key (sym g) ∙ sym e))
once-same key (x ∷ xs) y z once (inr i) (inr k) e = once-same key xs y z (once-tail key x xs once) i k e

both : (a b : Bool) → (a && b) ≡ true → (a ≡ true) × (b ≡ true)
both true b h = (refl, h)
both false b h = let never : ⊥ = cc in absurd never

-- the item that is locked is the one under the tag that is due
pub locked-item : (n : ℕ) (es : List (ℕ × Item)) (lock : Option Claim) (sorted : Bool) (edge number : ℕ) → KeepsTags es lock n sorted
    → is_reserved (store_part (tag_state es lock n)) edge number ≡ true → (z : Item) × In z (tagged_items es) × (z.id.no ≡ number) × (z.tag ≡ n)
locked-item n es None sorted edge number k h = let never : ⊥ = cc in absurd never
locked-item n es (Some c) sorted edge number k h =
    let found = any-some (λ (i : Item). is_numbered c.item i && nat_eq i.tag n) (tagged_items es) k.due in
    let tests = both (is_numbered c.item found.0) (nat_eq found.0.tag n) found.2 in
    let claim = both (nat_eq c.edge edge) (nat_eq c.item number) h in
    (found.0, found.1, eqb-true found.0.id.no c.item tests.0 ∙ eqb-true c.item number claim.1, eqb-true found.0.tag n tests.1)

pub locked-there : (n : ℕ) (es : List (ℕ × Item)) (lock : Option Claim) (sorted : Bool) (edge number : ℕ) → KeepsTags es lock n sorted
    → is_reserved (store_part (tag_state es lock n)) edge number ≡ true → IsSome (lookup (nat_eq n) es)
locked-there n es lock sorted edge number k h = by_found (lookup (nat_eq n) es) refl
  where
    by_found : (r : Option Item) → lookup (nat_eq n) es ≡ r → IsSome (lookup (nat_eq n) es)
    by_found (Some i) found = subst (λ (o : Option Item). IsSome o) (sym found) refl
    by_found None found =
        let z = locked-item n es lock sorted edge number k h in
        let yes_tag : nat_eq z.0.tag n ≡ true = eq-eqb z.0.tag n z.3 in
        let no_tag : nat_eq z.0.tag n ≡ false = lookup-none n es k.tagged found z.0 z.1 in
        let never : true ≡ false = sym yes_tag ∙ no_tag in let no_way : ⊥ = cc in absurd no_way

pub tag-taken : (n : ℕ) (es fs : List (ℕ × Item)) (lock : Option Claim) (sorted : Bool) (edge number : ℕ) → KeepsTags es lock n sorted
    → is_reserved (store_part (tag_state es lock n)) edge number ≡ true → Removes n es fs → WentTagged es fs number
tag-taken n es fs lock sorted edge number k h r =
    let z = locked-item n es lock sorted edge number k h in
    let there = lookup-some n es r.0.1 k.tagged r.1 in
    let same : r.0.1 ≡ z.0 = once-same item_tag (tagged_items es) r.0.1 z.0 k.tags there.0 z.1 (there.1 ∙ sym z.3) in
    tag-went es fs r.0 number k.tagged k.once k.tags r.2 (ap number_of same ∙ z.2)
