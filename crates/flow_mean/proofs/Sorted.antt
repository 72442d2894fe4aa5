-- The map of pairs, by a stable sort that keeps the first of each tag.
use Rattle.std.proofs.Common.{◌⊎◌, inl, inr, ◌≡◌, ℕ, zero, suc, ◌+◌, ◌≤◌, ◌<◌, Bool, true, false, not, cond, ◌&&◌, eqb, ltb, Some, None, List, [], ◌∷◌, ◌++◌, length, get_or, pos, refl, sym, ap, ◌∙◌, arith, eq-eqb}
use Rattle.std.proofs.lemmas.Bool.{eqb-true, ltb-true, ltb-false, lt-ltb}
use Rattle.std.specs.Prelude.{filter}
use Rattle.std.specs.List.{dedup, dedup_from}
use Rattle.std.specs.List.Sorted.{IsSortedBy, IsStableBy, ties}
use Rattle.std.specs.Ordering.{is_lt, nat_cmp}
use Rattle.std.specs.declared.cmp.Ordering.TheVariants.{Less, Equal, Greater}
use Rattle.flow_item.specs.declared.val.Val.{Val}
use Rattle.flow_item.specs.declared.val.Val.TheVariants as V
use Rattle.flow_item.specs.Pairs.{Pair}
use Rattle.flow_mean.specs.Maps.{TagMap, with_pair, with_pairs, map_of, value_at, has_repeat}
use Rattle.flow_mean.proofs.Tags.{times, times-append, repeat-times, times-repeat}
use Rattle.flow_mean.proofs.Rising.{Rises, rises-less, rises-times, map_of-rises, value-map_of, maps-same}

abbrev pub below : Pair → Pair → Bool
below p q = is_lt (nat_cmp p.0 q.0)

abbrev pub same_tag : Pair → Pair → Bool
same_tag p q = eqb p.0 q.0

-- ---- the test of the sort

below-ltb : (a b : ℕ) → is_lt (nat_cmp a b) ≡ ltb a b
below-ltb a b = by (ltb a b) (eqb a b)
  where
    by : (c d : Bool) → is_lt (cond c Less (cond d Equal Greater)) ≡ c
    by true d = refl
    by false true = refl
    by false false = refl

tied : (p q : Pair) → ties below p q ≡ eqb q.0 p.0
tied p q = rw (below-ltb p.0 q.0, below-ltb q.0 p.0) (by (ltb p.0 q.0) refl (ltb q.0 p.0) refl (eqb q.0 p.0) refl)
  where
    by : (c : Bool) → ltb p.0 q.0 ≡ c → (d : Bool) → ltb q.0 p.0 ≡ d → (e : Bool) → eqb q.0 p.0 ≡ e → (not c && not d) ≡ e
    by true a d b true k = absurd (omega (arith, ltb-true p.0 q.0 a, eqb-true q.0 p.0 k))
    by true a d b false k = refl
    by false a true b true k = absurd (omega (arith, ltb-true q.0 p.0 b, eqb-true q.0 p.0 k))
    by false a true b false k = refl
    by false a false b true k = refl
    by false a false b false k =
        let most : q.0 ≤ p.0 = ltb-false p.0 q.0 a in
        let least : p.0 ≤ q.0 = ltb-false q.0 p.0 b in
        let same : q.0 ≡ p.0 = omega (arith, most, least) in
        let clash : true ≡ false = sym (eq-eqb q.0 p.0 same) ∙ k in
        cc

-- the first value of a tag is the first of the pairs that have it
tied-value : (p : Pair) (ps : List Pair) → value_at p.0 (filter (ties below p) ps) ≡ value_at p.0 ps
tied-value p [] = refl
tied-value p (q ∷ qs) = rw (tied p q) (by (eqb q.0 p.0) refl (tied-value p qs))
  where
    by : (b : Bool) → eqb q.0 p.0 ≡ b → value_at p.0 (filter (ties below p) qs) ≡ value_at p.0 qs → value_at p.0 (cond b (q ∷ filter (ties below p) qs) (filter (ties below p) qs)) ≡ cond b (Some q.1) (value_at p.0 qs)
    by true e h = rw e refl
    by false e h = h

stable-value : (xs ys : List Pair) → IsStableBy below xs ys → (t : ℕ) → value_at t ys ≡ value_at t xs
stable-value xs ys h t =
    let p : Pair = (t, V.Int (pos 0)) in
    sym (tied-value p ys) ∙ ap (value_at t) (h p) ∙ tied-value p xs

-- ---- sorted lists

-- from b on, no tag is below one before it
abbrev Climbs : ℕ → List Pair → Type 0
Climbs b [] = Unit {0}
Climbs b (p ∷ ps) = (b ≤ p.0) × Climbs p.0 ps

climbs : (b : ℕ) (p : Pair) (ps : List Pair) → b ≤ p.0 → IsSortedBy below (p ∷ ps) → Climbs b (p ∷ ps)
climbs b p [] h s = (h, tt)
climbs b p (q ∷ qs) h s =
    let first : is_lt (nat_cmp q.0 p.0) ≡ false = s 0 p (omega arith) (omega arith) in
    let least : p.0 ≤ q.0 = ltb-false q.0 p.0 (sym (below-ltb q.0 p.0) ∙ first) in
    (h, climbs p.0 q qs least (λ k d low high. let e : suc k + 1 ≡ suc (k + 1) = omega arith in let there : suc k + 1 < suc (suc (length qs)) = omega (arith, high) in rw e at (s (suc k) d (omega arith) there)))

sorted-climbs : (ps : List Pair) → IsSortedBy below ps → Climbs 0 ps
sorted-climbs [] s = tt
sorted-climbs (p ∷ ps) s = climbs 0 p ps (omega arith) s

apart : (a b : ℕ) → b ≤ a → eqb a b ≡ false → b < a
apart a b h e = by (eqb b a) refl
  where
    by : (c : Bool) → eqb b a ≡ c → b < a
    by true k = let same : a ≡ b = sym (eqb-true b a k) in let clash : true ≡ false = sym (eq-eqb a b same) ∙ e in cc
    by false k = omega (arith, h, differs)
      where
        differs : b ≡ a → ⊥
        differs q = let clash : true ≡ false = sym (eq-eqb b a q) ∙ k in cc

dedup-rises : (b : ℕ) (p : Pair) (ps : List Pair) → Climbs b (p ∷ ps) → Rises b (dedup_from same_tag p ps)
dedup-rises b p [] c = (c.0, tt)
dedup-rises b p (q ∷ qs) c = by (eqb q.0 p.0) refl (dedup-rises b p qs) (dedup-rises (suc p.0) q qs)
  where
    by : (d : Bool) → eqb q.0 p.0 ≡ d → (Climbs b (p ∷ qs) → Rises b (dedup_from same_tag p qs)) → (Climbs (suc p.0) (q ∷ qs) → Rises (suc p.0) (dedup_from same_tag q qs)) → Rises b (cond d (dedup_from same_tag p qs) (p ∷ dedup_from same_tag q qs))
    by true e same later = let here : q.0 ≡ p.0 = eqb-true q.0 p.0 e in same (c.0, rw here at c.1.1)
    by false e same later = (c.0, later (apart q.0 p.0 c.1.0 e, c.1.1))

dedup-value : (t : ℕ) (p : Pair) (ps : List Pair) → value_at t (dedup_from same_tag p ps) ≡ value_at t (p ∷ ps)
dedup-value t p [] = refl
dedup-value t p (q ∷ qs) = by (eqb q.0 p.0) refl (dedup-value t p qs) (dedup-value t q qs)
  where
    hidden : q.0 ≡ p.0 → (c : Bool) → eqb p.0 t ≡ c → cond c (Some p.1) (value_at t qs) ≡ cond c (Some p.1) (cond (eqb q.0 t) (Some q.1) (value_at t qs))
    hidden same true k = refl
    hidden same false k = let also : eqb q.0 t ≡ false = rw same k in rw also refl

    by : (d : Bool) → eqb q.0 p.0 ≡ d → value_at t (dedup_from same_tag p qs) ≡ value_at t (p ∷ qs) → value_at t (dedup_from same_tag q qs) ≡ value_at t (q ∷ qs) → value_at t (cond d (dedup_from same_tag p qs) (p ∷ dedup_from same_tag q qs)) ≡ value_at t (p ∷ q ∷ qs)
    by true e same later = same ∙ hidden (eqb-true q.0 p.0 e) (eqb p.0 t) refl
    by false e same later = ap (λ v. cond (eqb p.0 t) (Some p.1) v) later

firsts-rise : (ps : List Pair) → Climbs 0 ps → Rises 0 (dedup same_tag ps)
firsts-rise [] c = tt
firsts-rise (p ∷ ps) c = dedup-rises 0 p ps c

firsts-value : (t : ℕ) (ps : List Pair) → value_at t (dedup same_tag ps) ≡ value_at t ps
firsts-value t [] = refl
firsts-value t (p ∷ ps) = dedup-value t p ps

-- the first pair of each tag, after a stable sort by the tags
pub firsts-map : (xs ys : List Pair) → IsSortedBy below ys → IsStableBy below xs ys → dedup same_tag ys ≡ map_of xs
firsts-map xs ys s h =
    maps-same 0 (dedup same_tag ys) (map_of xs) (firsts-rise ys (sorted-climbs ys s)) (map_of-rises xs)
    (λ t. firsts-value t ys ∙ stable-value xs ys h t ∙ sym (value-map_of t xs))

-- ---- repeats

abbrev hit : ℕ → ℕ → ℕ
hit a t = cond (eqb a t) 1 0

-- a pair more in a map adds to it
record Added (p : Pair) (m q : TagMap) : Type 0 where
  longer : length q ≡ suc (length m)
  counted : (t : ℕ) → times t q ≡ times t m + hit p.0 t

one-more : (b : Bool) (n : ℕ) → cond b (suc n) n ≡ n + cond b 1 0
one-more true n = omega arith
one-more false n = omega arith

behind : (b : Bool) (m n h : ℕ) → n ≡ m + h → cond b (suc n) n ≡ cond b (suc m) m + h
behind true m n h e = omega (arith, e)
behind false m n h e = e

-- or its tag was there
add-case : (p : Pair) (m : TagMap) → Added p m (with_pair p m) ⊎ ((length (with_pair p m) ≡ length m) × (1 ≤ times p.0 m))
add-case p [] = inl record { longer = refl; counted = λ t. one-more (eqb p.0 t) 0 }
add-case p (q ∷ qs) = by (eqb p.0 q.0) refl (ltb p.0 q.0) (add-case p qs)
  where
    later : Added p qs (with_pair p qs) ⊎ ((length (with_pair p qs) ≡ length qs) × (1 ≤ times p.0 qs)) → Added p (q ∷ qs) (q ∷ with_pair p qs) ⊎ ((length (q ∷ with_pair p qs) ≡ length (q ∷ qs)) × (1 ≤ times p.0 (q ∷ qs)))
    later (inl a) = inl record { longer = ap suc a.longer; counted = λ t. behind (eqb q.0 t) (times t qs) (times t (with_pair p qs)) (hit p.0 t) (a.counted t) }
    later (inr a) = inr (ap suc a.0, more (eqb q.0 p.0) (times p.0 qs) a.1)
      where
        more : (b : Bool) (n : ℕ) → 1 ≤ n → 1 ≤ cond b (suc n) n
        more true n h = omega arith
        more false n h = h

    by : (c : Bool) → eqb p.0 q.0 ≡ c → (d : Bool) → Added p qs (with_pair p qs) ⊎ ((length (with_pair p qs) ≡ length qs) × (1 ≤ times p.0 qs)) →
        Added p (q ∷ qs) (cond c (q ∷ qs) (cond d (p ∷ q ∷ qs) (q ∷ with_pair p qs))) ⊎ ((length (cond c (q ∷ qs) (cond d (p ∷ q ∷ qs) (q ∷ with_pair p qs))) ≡ length (q ∷ qs)) × (1 ≤ times p.0 (q ∷ qs)))
    by true e d a =
        let same : eqb q.0 p.0 ≡ true = eq-eqb q.0 p.0 (sym (eqb-true p.0 q.0 e)) in
        let there : 1 ≤ cond (eqb q.0 p.0) (suc (times p.0 qs)) (times p.0 qs) = rw same (omega arith) in
        inr (refl, there)
    by false e true a = inl record { longer = refl; counted = λ t. one-more (eqb p.0 t) (times t (q ∷ qs)) }
    by false e false a = later a

pairs-most : (m : TagMap) (ps : List Pair) → length (with_pairs m ps) ≤ length m + length ps
pairs-most m [] = omega arith
pairs-most m (p ∷ ps) = by (add-case p m) (pairs-most (with_pair p m) ps)
  where
    by : Added p m (with_pair p m) ⊎ ((length (with_pair p m) ≡ length m) × (1 ≤ times p.0 m)) → length (with_pairs (with_pair p m) ps) ≤ length (with_pair p m) + length ps → length (with_pairs (with_pair p m) ps) ≤ length m + suc (length ps)
    by (inl a) h = omega (arith, a.longer, h)
    by (inr a) h = omega (arith, a.0, h)

-- where none is lost each tag comes as often as before
pairs-whole : (m : TagMap) (ps : List Pair) → length (with_pairs m ps) ≡ length m + length ps → (t : ℕ) → times t (with_pairs m ps) ≡ times t m + times t ps
pairs-whole m [] h t = omega arith
pairs-whole m (p ∷ ps) h t = by (add-case p m) (pairs-most (with_pair p m) ps) (λ k. pairs-whole (with_pair p m) ps k t)
  where
    counts : (b : Bool) (x m n : ℕ) → x ≡ (m + cond b 1 0) + n → x ≡ m + cond b (suc n) n
    counts true x m n e = omega (arith, e)
    counts false x m n e = omega (arith, e)

    by : Added p m (with_pair p m) ⊎ ((length (with_pair p m) ≡ length m) × (1 ≤ times p.0 m)) → length (with_pairs (with_pair p m) ps) ≤ length (with_pair p m) + length ps →
        (length (with_pairs (with_pair p m) ps) ≡ length (with_pair p m) + length ps → times t (with_pairs (with_pair p m) ps) ≡ times t (with_pair p m) + times t ps) →
        times t (with_pairs (with_pair p m) ps) ≡ times t m + cond (eqb p.0 t) (suc (times t ps)) (times t ps)
    by (inl a) most later =
        let whole : length (with_pairs (with_pair p m) ps) ≡ length (with_pair p m) + length ps = omega (arith, h, a.longer) in
        let counted : times t (with_pair p m) ≡ times t m + hit p.0 t = a.counted t in
        let both : times t (with_pairs (with_pair p m) ps) ≡ (times t m + hit p.0 t) + times t ps = later whole ∙ ap (λ n. n + times t ps) counted in
        counts (eqb p.0 t) _ (times t m) (times t ps) both
    by (inr a) most later = absurd (omega (arith, h, most, a.0))

-- and where no tag comes twice none is lost
pairs-kept : (m : TagMap) (ps : List Pair) → ((t : ℕ) → times t m + times t ps ≤ 1) → length (with_pairs m ps) ≡ length m + length ps
pairs-kept m [] h = omega arith
pairs-kept m (p ∷ ps) h = by (add-case p m) (pairs-kept (with_pair p m) ps)
  where
    counts : (b : Bool) (m n : ℕ) → m + cond b (suc n) n ≤ 1 → (m + cond b 1 0) + n ≤ 1
    counts true m n e = omega (arith, e)
    counts false m n e = omega (arith, e)

    here : 1 ≤ times p.0 m → times p.0 m + cond (eqb p.0 p.0) (suc (times p.0 ps)) (times p.0 ps) ≤ 1 → ⊥
    here k most = let twice : times p.0 m + suc (times p.0 ps) ≤ 1 = rw (eq-eqb p.0 p.0 refl) at most in absurd (omega (arith, k, twice))

    by : Added p m (with_pair p m) ⊎ ((length (with_pair p m) ≡ length m) × (1 ≤ times p.0 m)) →
        (((t : ℕ) → times t (with_pair p m) + times t ps ≤ 1) → length (with_pairs (with_pair p m) ps) ≡ length (with_pair p m) + length ps) →
        length (with_pairs (with_pair p m) ps) ≡ length m + suc (length ps)
    by (inl a) later =
        let most : (t : ℕ) → times t (with_pair p m) + times t ps ≤ 1 =
        λ t. let k : (times t m + hit p.0 t) + times t ps ≤ 1 = counts (eqb p.0 t) (times t m) (times t ps) (h t) in let e : times t (with_pair p m) ≡ times t m + hit p.0 t = a.counted t in rw e k in
        let whole : length (with_pairs (with_pair p m) ps) ≡ length (with_pair p m) + length ps = later most in
        omega (arith, whole, a.longer)
    by (inr a) later = absurd (here a.1 (h p.0))

-- a tag comes twice exactly where the map is shorter than the list
pub repeat_shorter : (ps : List Pair) → ltb (length (map_of ps)) (length ps) ≡ has_repeat ps
repeat_shorter ps = by (ltb (length (map_of ps)) (length ps)) refl (has_repeat ps) refl
  where
    by : (c : Bool) → ltb (length (map_of ps)) (length ps) ≡ c → (d : Bool) → has_repeat ps ≡ d → c ≡ d
    by true e true f = refl
    by false e false f = refl
    by true e false f =
        let whole : length (map_of ps) ≡ 0 + length ps = pairs-kept [] ps (λ t. let most : times t ps ≤ 1 = repeat-times ps f t in omega (arith, most)) in
        absurd (omega (arith, ltb-true (length (map_of ps)) (length ps) e, whole))
    by false e true f =
        let most : length (map_of ps) ≤ 0 + length ps = pairs-most [] ps in
        let least : length ps ≤ length (map_of ps) = ltb-false (length (map_of ps)) (length ps) e in
        let whole : length (map_of ps) ≡ 0 + length ps = omega (arith, most, least) in
        let none : has_repeat ps ≡ false = times-repeat ps (λ t. let once : times t (map_of ps) ≤ 1 = rises-times 0 t (map_of ps) (map_of-rises ps) in let same : times t (map_of ps) ≡ 0 + times t ps = pairs-whole [] ps whole t in omega (arith, once, same)) in
        let clash : true ≡ false = sym f ∙ none in
        cc
