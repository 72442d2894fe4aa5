-- The entries of a sequencer, one more or one less.
use Rattle.std.proofs.Common.{◌≡◌, ℕ, suc, Bool, true, false, ◌||◌, cond, nat_eq, nat_lt, Option, Some, None, List, [], ◌∷◌, ◌++◌, filter, refl, sym, ap, ◌∙◌, subst, arith, inl, inr, ◌⊎◌}
use Rattle.std.proofs.lemmas.Bool.{eqb-true, eq-eqb}
use Rattle.std.proofs.lemmas.Bool.Decides.{eqb_tells}
use Rattle.std.proofs.lemmas.List.Elements.{All-push, All-tail}
use Rattle.std.proofs.lemmas.List.Sorted.{IsPermutation-sym, IsPermutation-to_front, IsPermutation-map, All-permutation}
use Rattle.std.specs.List.{list_any, All}
use Rattle.std.specs.List.Sorted.{IsPermutation}
use Rattle.std.specs.Map.{lookup}
use Rattle.flow_item.specs.declared.item.Item.{Item}
use Rattle.flow_item.specs.Lists.{drop_first, first}
use Rattle.flow_machine.specs.Enabled.{is_numbered}
use Rattle.flow_store.specs.Orders.{In, Once, mark, by_age, by_key, number_of, item_tag}
use Rattle.flow_store.specs.Tags.{entry_item, tagged_items, tag_state}
use Rattle.flow_store.proofs.Rising.{in-sorted, sorted-in, once-differs, once-tail, once-more, once-permutation, sorted-more}
use Rattle.flow_store.proofs.RankSteps.{went-of, all-sorted}
use Rattle.std.specs.Option.{IsSome}
use Rattle.flow_shape.specs.declared.Kind.TheVariants as K
use Rattle.flow_machine.specs.declared.Claim.{Claim}
use Rattle.flow_machine.specs.State.{store_part}
use Rattle.flow_store.specs.Stores.{is_new, goes}
use Rattle.flow_store.proofs.Counting.{sum-sorted}

-- each entry is under its item's tag
abbrev pub Tagged : List (ℕ × Item) → Type 0
Tagged es = All (λ (e : ℕ × Item). e.0 ≡ e.1.tag) es

pub tagged-head : (e : ℕ × Item) (es : List (ℕ × Item)) → Tagged (e ∷ es) → e.0 ≡ e.1.tag
tagged-head e es h = h 0 e (omega arith)

pub tagged-tail : (e : ℕ × Item) (es : List (ℕ × Item)) → Tagged (e ∷ es) → Tagged es
tagged-tail e es h k d below = h (suc k) d (omega arith)

-- the item that a look-up finds
pub lookup-some : (n : ℕ) (es : List (ℕ × Item)) (i : Item) → Tagged es → lookup (nat_eq n) es ≡ Some i → In i (tagged_items es) × (i.tag ≡ n)
lookup-some n [] i h found = let never : ⊥ = cc in absurd never
lookup-some n (e ∷ es) i h found = by_test (nat_eq n e.0) refl found (λ f. lookup-some n es i (tagged-tail e es h) f)
  where
    by_test : (b : Bool) → nat_eq n e.0 ≡ b → cond b (Some e.1) (lookup (nat_eq n) es) ≡ Some i → (lookup (nat_eq n) es ≡ Some i → In i (tagged_items es) × (i.tag ≡ n)) → In i (tagged_items (e ∷ es)) × (i.tag ≡ n)
    by_test true t found deep =
        let same : i ≡ e.1 = cc in
        (inl same, ap item_tag same ∙ sym (tagged-head e es h) ∙ sym (eqb-true n e.0 t))
    by_test false t found deep = let later = deep found in (inr later.0, later.1)

pub lookup-none : (n : ℕ) (es : List (ℕ × Item)) → Tagged es → lookup (nat_eq n) es ≡ None → (z : Item) → In z (tagged_items es) → nat_eq z.tag n ≡ false
lookup-none n [] h none z k = absurd k
lookup-none n (e ∷ es) h none z k = by_test (nat_eq n e.0) refl none k (λ f m. lookup-none n es (tagged-tail e es h) f z m)
  where
    differs : nat_eq n e.0 ≡ false → z ≡ e.1 → nat_eq z.tag n ≡ false
    differs t same = ap (λ (i : Item). nat_eq i.tag n) same ∙ ap (λ m. nat_eq m n) (sym (tagged-head e es h)) ∙ turned n e.0 t
      where
        turned : (a b : ℕ) → nat_eq a b ≡ false → nat_eq b a ≡ false
        turned a b t = by_tells (eqb_tells b a) t
          where
            by_tells : ((nat_eq b a ≡ true) × (b ≡ a)) ⊎ ((nat_eq b a ≡ false) × (b ≡ a → ⊥)) → nat_eq a b ≡ false → nat_eq b a ≡ false
            by_tells (inl (p, q)) t = let never : true ≡ false = sym (eq-eqb a b (sym q)) ∙ t in let no_way : ⊥ = cc in absurd no_way
            by_tells (inr (p, q)) t = p

    by_test : (b : Bool) → nat_eq n e.0 ≡ b → cond b (Some e.1) (lookup (nat_eq n) es) ≡ None → (z ≡ e.1) ⊎ In z (tagged_items es) → (lookup (nat_eq n) es ≡ None → In z (tagged_items es) → nat_eq z.tag n ≡ false) → nat_eq z.tag n ≡ false
    by_test true t none k deep = let never : ⊥ = cc in absurd never
    by_test false t none (inl same) deep = differs t same
    by_test false t none (inr k) deep = deep none k

-- ---- the item that is due

filter-none : (n : ℕ) (zs : List Item) → ((z : Item) → In z zs → nat_eq z.tag n ≡ false) → filter (λ (i : Item). nat_eq i.tag n) zs ≡ []
filter-none n [] h = refl
filter-none n (z ∷ zs) h = rw (h z (inl refl)) (filter-none n zs (λ y k. h y (inr k)))

differ : (a b : ℕ) → (a ≡ b → ⊥) → nat_eq a b ≡ false
differ a b f = by_tells (eqb_tells a b)
  where
    by_tells : ((nat_eq a b ≡ true) × (a ≡ b)) ⊎ ((nat_eq a b ≡ false) × (a ≡ b → ⊥)) → nat_eq a b ≡ false
    by_tells (inl (p, q)) = absurd (f q)
    by_tells (inr (p, q)) = p

filter-one : (n : ℕ) (zs : List Item) (i : Item) → Once item_tag zs → In i zs → i.tag ≡ n → filter (λ (j : Item). nat_eq j.tag n) zs ≡ i ∷ []
filter-one n [] i once k e = absurd k
filter-one n (z ∷ zs) i once (inl same) e =
    let here : nat_eq z.tag n ≡ true = eq-eqb z.tag n (ap item_tag (sym same) ∙ e) in
    rw here (ap (λ w. w ∷ filter (λ (j : Item). nat_eq j.tag n) zs) (sym same)
    ∙ ap (λ ws. i ∷ ws) (filter-none n zs (λ y k. differ y.tag n (λ f. once-differs item_tag z y zs once k (ap item_tag (sym same) ∙ e ∙ sym f)))))
filter-one n (z ∷ zs) i once (inr k) e =
    let away : nat_eq z.tag n ≡ false = differ z.tag n (λ f. once-differs item_tag z i zs once k (f ∙ sym e)) in
    rw away (filter-one n zs i (once-tail item_tag z zs once) k e)

pub once-sorted : (xs : List Item) → Once item_tag xs → Once item_tag (by_age xs)
once-sorted xs h n = rw (sum-sorted (by_key number_of) (mark item_tag n) xs) (h n)

-- the look-up finds the first that may go
pub due-first : (n : ℕ) (es : List (ℕ × Item)) → Tagged es → Once item_tag (tagged_items es) → (r : Option Item) → lookup (nat_eq n) es ≡ r → r ≡ first (filter (λ (i : Item). nat_eq i.tag n) (by_age (tagged_items es)))
due-first n es h once None found =
    sym (ap first (filter-none n (by_age (tagged_items es)) (λ z k. lookup-none n es h found z (in-sorted (by_key number_of) z (tagged_items es) k))))
due-first n es h once (Some i) found =
    let there = lookup-some n es i h found in
    sym (ap first (filter-one n (by_age (tagged_items es)) i (once-sorted (tagged_items es) once) (sorted-in (by_key number_of) i (tagged_items es) there.0) there.1))

-- ---- one more

pub map-more : (es : List (ℕ × Item)) (e : ℕ × Item) → tagged_items (es ++ e ∷ []) ≡ tagged_items es ++ e.1 ∷ []
map-more [] e = refl
map-more (f ∷ es) e = ap (λ zs. f.1 ∷ zs) (map-more es e)

tagged-more : (es : List (ℕ × Item)) (x : Item) → Tagged es → Tagged (es ++ (x.tag, x) ∷ [])
tagged-more es x h = All-push (λ (e : ℕ × Item). e.0 ≡ e.1.tag) es (x.tag, x) h refl

-- what the entries keep with one more
pub record CameTagged (es fs : List (ℕ × Item)) (x : Item) : Type 0 where
  pub tagged : Tagged fs
  pub once : Once number_of (tagged_items fs)
  pub tags : Once item_tag (tagged_items fs)
  pub items : by_age (tagged_items fs) ≡ by_age (tagged_items es) ++ x ∷ []

pub tag-came : (es fs : List (ℕ × Item)) (x : Item) → Tagged es → Once number_of (tagged_items es) → Once item_tag (tagged_items es) → is_new x.id.no (by_age (tagged_items es)) ≡ true
    → lookup (nat_eq x.tag) es ≡ None → fs ≡ es ++ (x.tag, x) ∷ [] → CameTagged es fs x
tag-came es fs x h once tags above none e =
    let xs : List Item = tagged_items es in
    let plain : tagged_items fs ≡ xs ++ x ∷ [] = ap tagged_items e ∙ map-more es (x.tag, x) in
    let p : IsPermutation (x ∷ xs) (xs ++ x ∷ []) = IsPermutation-sym (xs ++ x ∷ []) (x ∷ xs) (IsPermutation-to_front xs x) in
    let more = sorted-more number_of x xs (xs ++ x ∷ []) p once (λ z k. all-sorted (λ (i : Item). nat_lt i.id.no x.id.no) xs z above k) in
    let new_tags = once-permutation item_tag (x ∷ xs) (xs ++ x ∷ []) p
    (once-more item_tag x xs tags (λ z k f. same-tags z.tag x.tag f (lookup-none x.tag es h none z k))) in
    record {
      tagged = subst Tagged (sym e) (tagged-more es x h);
      once = subst (Once number_of) (sym plain) more.0;
      tags = subst (Once item_tag) (sym plain) new_tags;
      items = ap by_age plain ∙ more.1;
    }
  where
    same-tags : (a b : ℕ) → a ≡ b → nat_eq a b ≡ false → ⊥
    same-tags a b f t = let never : true ≡ false = sym (eq-eqb a b f) ∙ t in cc

-- ---- one less

pub record WentTagged (es fs : List (ℕ × Item)) (number : ℕ) : Type 0 where
  pub tagged : Tagged fs
  pub once : Once number_of (tagged_items fs)
  pub tags : Once item_tag (tagged_items fs)
  pub items : by_age (tagged_items fs) ≡ drop_first (is_numbered number) (by_age (tagged_items es))

pub tag-went : (es fs : List (ℕ × Item)) (e : ℕ × Item) (number : ℕ) → Tagged es → Once number_of (tagged_items es) → Once item_tag (tagged_items es)
    → IsPermutation es (e ∷ fs) → e.1.id.no ≡ number → WentTagged es fs number
tag-went es fs e number h once tags p same =
    let q : IsPermutation (tagged_items es) (e.1 ∷ tagged_items fs) = IsPermutation-map entry_item es (e ∷ fs) p in
    let gone = went-of (tagged_items es) (tagged_items fs) e.1 number once same q in
    record {
      tagged = All-tail (λ (f : ℕ × Item). f.0 ≡ f.1.tag) e fs (All-permutation (λ (f : ℕ × Item). f.0 ≡ f.1.tag) es (e ∷ fs) p h);
      once = gone.once;
      tags = once-tail item_tag e.1 (tagged_items fs) (once-permutation item_tag (tagged_items es) (e.1 ∷ tagged_items fs) q tags);
      items = gone.items;
    }

-- ---- what may go

due-filter : (n : ℕ) (es : List (ℕ × Item)) (i : Item) → Tagged es → Once item_tag (tagged_items es) → lookup (nat_eq n) es ≡ Some i → filter (λ (j : Item). nat_eq j.tag n) (by_age (tagged_items es)) ≡ i ∷ []
due-filter n es i h once found =
    let there = lookup-some n es i h found in
    filter-one n (by_age (tagged_items es)) i (once-sorted (tagged_items es) once) (sorted-in (by_key number_of) i (tagged_items es) there.0) there.1

-- the item that may go is the one under the tag that is due
pub due-number : (n : ℕ) (es : List (ℕ × Item)) (lock : Option Claim) (i : Item) (number : ℕ) → Tagged es → Once item_tag (tagged_items es) → lookup (nat_eq n) es ≡ Some i
    → goes K.Sequencer (store_part (tag_state es lock n)) number ≡ true → i.id.no ≡ number
due-number n es (Some l) i number h once found may = let never : ⊥ = cc in absurd never
due-number n es None i number h once found may =
    eqb-true i.id.no number (by_first (is_numbered number i) (subst (λ xs. list_any (is_numbered number) xs ≡ true) (due-filter n es i h once found) may))
  where
    by_first : (b : Bool) → (b || false) ≡ true → b ≡ true
    by_first true h = refl
    by_first false h = h

pub due-there : (n : ℕ) (es : List (ℕ × Item)) (lock : Option Claim) (number : ℕ) → Tagged es → goes K.Sequencer (store_part (tag_state es lock n)) number ≡ true → IsSome (lookup (nat_eq n) es)
due-there n es (Some l) number h may = let never : ⊥ = cc in absurd never
due-there n es None number h may = by_found (lookup (nat_eq n) es) refl
  where
    nothing : (number : ℕ) → list_any (is_numbered number) [] ≡ true → ⊥
    nothing number h = cc

    by_found : (r : Option Item) → lookup (nat_eq n) es ≡ r → IsSome (lookup (nat_eq n) es)
    by_found (Some i) found = subst (λ (o : Option Item). IsSome o) (sym found) refl
    by_found None found =
        absurd (nothing number (subst (λ xs. list_any (is_numbered number) xs ≡ true)
        (filter-none n (by_age (tagged_items es)) (λ z k. lookup-none n es h found z (in-sorted (by_key number_of) z (tagged_items es) k))) may))
