-- Values of one tag in several maps, map by map, and the tuples of a join, pair by pair.
use Rattle.std.proofs.Common.{◌≡◌, ℕ, zero, suc, ◌+◌, ◌≤◌, ◌<◌, Bool, true, false, ltb, Option, Some, None, List, [], ◌∷◌, ◌++◌, length, get_or, drop, refl, sym, ap, subst, ◌∙◌, arith, append_assoc}
use Rattle.std.proofs.lemmas.Bool.{ltb-true, ltb-false}
use Rattle.std.proofs.lemmas.List.{drop_all, append-nil}
use Rattle.std.proofs.lemmas.Option.{slice_get_read, get_or_from_slice_get}
use Rattle.std.specs.Prelude.{slice_get, option_map, option_and_then}
use Rattle.std.specs.List.{filter_map, cons_option, AllByRecursion}
use Rattle.std.specs.Option.{option_to_list}
use Rattle.flow_item.specs.declared.val.Val.{Val}
use Rattle.flow_item.specs.Values.{list_of}
use Rattle.flow_item.specs.Pairs.{Pair}
use Rattle.flow_mean.specs.Maps.{TagMap, value_at, values_at, tuple_at, join_of}
use Rattle.flow_mean.specs.Passing.{Rising, prefixed, tuples_of}
use Rattle.flow_mean.proofs.Least.{drop-at}
use Rattle.flow_mean.proofs.Values.{prefixed-more, value-here, value-none, above-order}

-- ---- where the tag is in a rising map

module _ (map : TagMap) (tag place : ℕ) (rising : Rising map)
    (below : (i : ℕ) (p : Pair) → i < place → slice_get map i ≡ Some p → p.0 < tag)
    (above : (i : ℕ) (p : Pair) → place ≤ i → slice_get map i ≡ Some p → tag ≤ p.0) where
  get-below : (xs : TagMap) (i : ℕ) (p : Pair) → slice_get xs i ≡ Some p → i < length xs
  get-below [] i p h = cc
  get-below (x ∷ xs) zero p h = omega arith
  get-below (x ∷ xs) (suc i) p h = let less : i < length xs = get-below xs i p h in omega (arith, less)

  pub none-past : length map ≤ place → None ≡ value_at tag map
  none-past most = sym (value-none map tag (λ i p h e. let less : i < length map = get-below map i p h in let small : p.0 < tag = below i p (omega (arith, less, most)) h in absurd (omega (arith, small, e))))

  pub none-there : (q : Pair) → place < length map → q ≡ get_or map place q → (q.0 ≡ tag → ⊥) → None ≡ value_at tag map
  none-there q less is ne = sym (value-none map tag by)
    where
      at : slice_get map place ≡ Some q
      at = slice_get_read map (length map) place q refl less is

      by : (i : ℕ) (p : Pair) → slice_get map i ≡ Some p → p.0 ≡ tag → ⊥
      by i p h e = which (ltb i place) refl
        where
          which : (b : Bool) → ltb i place ≡ b → ⊥
          which true k = let small : p.0 < tag = below i p (ltb-true i place k) h in absurd (omega (arith, small, e))
          which false k =
              let late : place ≤ i = ltb-false i place k in
              let up : q.0 ≤ p.0 = above-order 0 place i map q p rising.rises late at h in
              let least : tag ≤ q.0 = above place q (omega arith) at in
              let same : q.0 ≡ tag = omega (arith, up, least, e) in
              ne same

  pub some-there : (q e : Pair) → place < length map → q ≡ get_or map place q → q.0 ≡ tag → Some (get_or map place e).1 ≡ value_at tag map
  some-there q e less is same = ap (λ (p : Pair). Some p.1) (get_or_from_slice_get map place q e at) ∙ sym (value-here 0 place map q tag rising.rises at same)
    where
      at : slice_get map place ≡ Some q
      at = slice_get_read map (length map) place q refl less is

-- ---- the values of a tag

prefixed-none : (o : Option (List Val)) → prefixed [] o ≡ o
prefixed-none None = refl
prefixed-none (Some vs) = refl

pub values-first : (tag : ℕ) (maps : List TagMap) (vs : List Val) → vs ≡ [] → prefixed vs (values_at tag (drop 0 maps)) ≡ values_at tag maps
values-first tag maps vs h = ap (λ (l : List Val). prefixed l (values_at tag maps)) h ∙ prefixed-none (values_at tag maps)

module _ (tag : ℕ) (maps : List TagMap) (i : ℕ) (map : TagMap) (vs : List Val) (less : i < length maps) (is : map ≡ get_or maps i map)
    (inv : prefixed vs (values_at tag (drop i maps)) ≡ values_at tag maps) where
  opened : values_at tag (drop i maps) ≡ option_and_then (λ v. option_map (λ ws. v ∷ ws) (values_at tag (drop (i + 1) maps))) (value_at tag map)
  opened = ap (values_at tag) (drop-at maps i map (slice_get_read maps (length maps) i map refl less is))

  pub values-on : (v : Val) (more : List Val) → Some v ≡ value_at tag map → more ≡ vs ++ v ∷ [] → prefixed more (values_at tag (drop (i + 1) maps)) ≡ values_at tag maps
  values-on v more h grown =
      ap (λ (l : List Val). prefixed l (values_at tag (drop (i + 1) maps))) grown
      ∙ prefixed-more vs v (values_at tag (drop (i + 1) maps))
      ∙ ap (prefixed vs) (sym (opened ∙ ap (λ o. option_and_then (λ v. option_map (λ ws. v ∷ ws) (values_at tag (drop (i + 1) maps))) o) (sym h)))
      ∙ inv

  pub values-gone : None ≡ value_at tag map → None ≡ values_at tag maps
  values-gone h =
      sym (ap (prefixed vs) (opened ∙ ap (λ o. option_and_then (λ v. option_map (λ ws. v ∷ ws) (values_at tag (drop (i + 1) maps))) o) (sym h)))
      ∙ inv

pub values-end : (tag : ℕ) (maps : List TagMap) (i : ℕ) (vs : List Val) → length maps ≤ i → prefixed vs (values_at tag (drop i maps)) ≡ values_at tag maps → Some vs ≡ values_at tag maps
values-end tag maps i vs most inv = ap Some (sym (append-nil vs)) ∙ sym (ap (λ l. prefixed vs (values_at tag l)) (drop_all i maps most)) ∙ inv

-- each of the maps rises
pub rising-at : (maps : List TagMap) (i : ℕ) (map d : TagMap) → AllByRecursion Rising maps → i < length maps → map ≡ get_or maps i d → Rising map
rising-at [] i map d all less is = absurd (omega (arith, less))
rising-at (m ∷ ms) zero map d all less is = subst Rising (sym is) all.0
rising-at (m ∷ ms) (suc i) map d all less is = rising-at ms i map d all.1 (omega (arith, less)) is

-- ---- tuples

tuples-cons : (ms : List TagMap) (p : Pair) (qs : TagMap) → filter_map (tuple_at ms) (p ∷ qs) ≡ tuples_of ms p.0 ++ filter_map (tuple_at ms) qs
tuples-cons ms p qs = by (tuple_at ms p)
  where
    by : (o : Option Pair) → cons_option o (filter_map (tuple_at ms) qs) ≡ option_to_list o ++ filter_map (tuple_at ms) qs
    by None = refl
    by (Some x) = refl

module _ (maps : List TagMap) (row : TagMap) (i : ℕ) (p : Pair) (less : i < length row) (is : p ≡ get_or row i p) where
  pub join-on : (ts now : List Pair) → now ≡ ts ++ tuples_of maps p.0 → ts ++ filter_map (tuple_at maps) (drop i row) ≡ filter_map (tuple_at maps) row → now ++ filter_map (tuple_at maps) (drop (i + 1) row) ≡ filter_map (tuple_at maps) row
  join-on ts now h inv =
      ap (λ l. l ++ filter_map (tuple_at maps) (drop (i + 1) row)) h
      ∙ append_assoc ts (tuples_of maps p.0) (filter_map (tuple_at maps) (drop (i + 1) row))
      ∙ ap (λ l. ts ++ l) (sym (ap (filter_map (tuple_at maps)) (drop-at row i p (slice_get_read row (length row) i p refl less is)) ∙ tuples-cons maps p (drop (i + 1) row)))
      ∙ inv

pub join-end : (maps : List TagMap) (row : TagMap) (i : ℕ) (ts : List Pair) → length row ≤ i → ts ++ filter_map (tuple_at maps) (drop i row) ≡ filter_map (tuple_at maps) row → ts ≡ filter_map (tuple_at maps) row
join-end maps row i ts most inv = sym (append-nil ts) ∙ sym (ap (λ l. ts ++ filter_map (tuple_at maps) l) (drop_all i row most)) ∙ inv

pub join-first : (maps : List TagMap) (row ts : List Pair) → ts ≡ [] → ts ++ filter_map (tuple_at maps) (drop 0 row) ≡ filter_map (tuple_at maps) row
join-first maps row ts h = ap (λ l. l ++ filter_map (tuple_at maps) row) h

pub join-some : (maps : List TagMap) (row e m : TagMap) → (length maps ≡ 0 → ⊥) → row ≡ get_or maps 0 e → m ≡ filter_map (tuple_at maps) row → m ≡ join_of maps
join-some [] row e m some is h = absurd (some refl)
join-some (x ∷ xs) row e m some is h = h ∙ ap (filter_map (tuple_at (x ∷ xs))) is

pub join-none : (maps : List TagMap) → length maps ≡ 0 → [] ≡ join_of maps
join-none [] h = refl
join-none (x ∷ xs) h = absurd (omega (arith, h))

pub tuples-some : (maps : List TagMap) (tag : ℕ) (vs : List Val) (t : Val) → Some vs ≡ values_at tag maps → t ≡ list_of vs → (old now : List Pair) → now ≡ old ++ (tag, t) ∷ [] → now ≡ old ++ tuples_of maps tag
tuples-some maps tag vs t h e old now grown =
    grown ∙ ap (λ v. old ++ (tag, v) ∷ []) e
    ∙ ap (λ (o : Option (List Val)). old ++ option_to_list (option_map (λ vs. (tag, list_of vs)) o)) h

pub tuples-none : (maps : List TagMap) (tag : ℕ) → None ≡ values_at tag maps → (old : List Pair) → old ≡ old ++ tuples_of maps tag
tuples-none maps tag h old = sym (append-nil old) ∙ ap (λ (o : Option (List Val)). old ++ option_to_list (option_map (λ vs. (tag, list_of vs)) o)) h
