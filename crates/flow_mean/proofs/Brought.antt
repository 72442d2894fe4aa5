-- What comes to the ports of a node, port by port.
use Rattle.std.proofs.Common.{◌≡◌, ℕ, zero, suc, ◌+◌, ◌*◌, ◌≤◌, ◌<◌, Bool, true, false, ◌||◌, List, [], ◌∷◌, ◌++◌, length, get_or, refl, sym, ap, ◌∙◌, arith}
use Rattle.std.proofs.lemmas.List.FromFn.{map-range_with_len_more, fill_by_all}
use Rattle.std.proofs.lemmas.List.Folds.{list_any-append}
use Rattle.std.specs.Prelude.{map}
use Rattle.std.specs.List.{flat_map, list_any, range_with_len}
use Rattle.flow_item.specs.Pairs.{Pair}
use Rattle.flow_mean.specs.Maps.{TagMap, map_of, has_repeat}
use Rattle.flow_mean.specs.Passing.{brought, brought_to, maps_at, repeats_at}

-- a port more
pub maps-more : (at : ℕ → List Pair) (n : ℕ) → maps_at at (n + 1) ≡ maps_at at n ++ map_of (at n) ∷ []
maps-more at n = let plus : 0 + n ≡ n = omega arith in map-range_with_len_more (λ port. map_of (at port)) 0 n n plus

range-more : (a n : ℕ) → range_with_len a (n + 1) ≡ range_with_len a n ++ (a + n) ∷ []
range-more a n = same a (n + 1) ∙ (map-range_with_len_more (λ port. port) a n (a + n) refl) ∙ ap (λ l. l ++ (a + n) ∷ []) (sym (same a n))
  where
    same : (a n : ℕ) → range_with_len a n ≡ map (λ port. port) (range_with_len a n)
    same a zero = refl
    same a (suc n) = ap (λ l. a ∷ l) (same (a + 1) n)

or-false : (b : Bool) → (b || false) ≡ b
or-false true = refl
or-false false = refl

pub repeats-more : (at : ℕ → List Pair) (n : ℕ) → repeats_at at (n + 1) ≡ (repeats_at at n || has_repeat (at n))
repeats-more at n =
    ap (list_any (λ port. has_repeat (at port))) (range-more 0 n)
    ∙ list_any-append (λ port. has_repeat (at port)) (range_with_len 0 n) ((0 + n) ∷ [])
    ∙ ap (λ b. repeats_at at n || b) (or-false (has_repeat (at (0 + n))) ∙ ap (λ k. has_repeat (at k)) plus)
  where
    plus : 0 + n ≡ n
    plus = omega arith

-- as many maps as there are
pub maps-all : (maps : List TagMap) (n : ℕ) → length maps ≡ n → map (λ port. get_or maps port []) (range_with_len 0 n) ≡ maps
maps-all maps n h = sym (fill_by_all (λ port. get_or maps port []) maps n [] h (λ k less. refl))

-- what is brought is told by what was put there
pub brought-same : (puts initial : List (List Pair)) (sources : List (List ℕ)) (passed : List TagMap) (node port : ℕ) → get_or puts (node * 8 + port) [] ≡ get_or initial (node * 8 + port) [] → brought puts sources passed (node * 8 + port) ≡ brought_to initial sources passed node port
brought-same puts initial sources passed node port h = ap (λ (l : List Pair). l ++ flat_map (λ s. get_or passed s []) (get_or sources (node * 8 + port) [])) h

-- ---- a port is looked at

pub read-any : {X : Type 0} (xs : List X) (i : ℕ) (e d : X) → i < length xs → get_or xs i e ≡ get_or xs i d
read-any [] i e d less = absurd (omega (arith, less))
read-any (y ∷ ys) zero e d less = refl
read-any (y ∷ ys) (suc i) e d less = read-any ys i e d (omega (arith, less))

pub brought-of : (puts : List (List Pair)) (sources : List (List ℕ)) (passed : List TagMap) (place : ℕ) (put all e : List Pair) (order f : List ℕ) → place < length puts → put ≡ get_or puts place e → place < length sources → order ≡ get_or sources place f → all ≡ put ++ flat_map (λ s. get_or passed s []) order → all ≡ brought puts sources passed place
brought-of puts sources passed place put all e order f less is also from h =
    let first : put ≡ get_or puts place [] = is ∙ read-any puts place e [] less in
    let then : order ≡ get_or sources place [] = from ∙ read-any sources place f [] also in
    h ∙ (λ i. first i ++ flat_map (λ s. get_or passed s []) (then i))

module _ (initial now : List (List Pair)) (sources : List (List ℕ)) (passed : List TagMap) (node q : ℕ)
    (same : get_or now (node * 8 + q) [] ≡ get_or initial (node * 8 + q) []) where
  pub maps-on : (maps more : List TagMap) (a : TagMap) → more ≡ maps ++ a ∷ [] → a ≡ map_of (brought now sources passed (node * 8 + q)) → maps ≡ maps_at (brought_to initial sources passed node) q → more ≡ maps_at (brought_to initial sources passed node) (q + 1)
  maps-on maps more a h made inv =
      let one : a ≡ map_of (brought_to initial sources passed node q) = made ∙ ap map_of (brought-same now initial sources passed node q same) in
      h ∙ (λ i. inv i ++ one i ∷ []) ∙ sym (maps-more (brought_to initial sources passed node) q)

  pub repeats-on : (rs more a : Bool) → more ≡ (rs || a) → a ≡ has_repeat (brought now sources passed (node * 8 + q)) → rs ≡ repeats_at (brought_to initial sources passed node) q → more ≡ repeats_at (brought_to initial sources passed node) (q + 1)
  repeats-on rs more a h made inv =
      let one : a ≡ has_repeat (brought_to initial sources passed node q) = made ∙ ap has_repeat (brought-same now initial sources passed node q same) in
      h ∙ (λ i. inv i || one i) ∙ sym (repeats-more (brought_to initial sources passed node) q)

module _ (initial now next : List (List Pair)) (node q : ℕ) (small : q < 8) (kept : (other : ℕ) → (other ≡ node * 8 + q → ⊥) → get_or next other [] ≡ get_or now other []) where
  pub others-on : ((m port : ℕ) → (m ≡ node → ⊥) → port < 8 → get_or now (m * 8 + port) [] ≡ get_or initial (m * 8 + port) []) → (m port : ℕ) → (m ≡ node → ⊥) → port < 8 → get_or next (m * 8 + port) [] ≡ get_or initial (m * 8 + port) []
  others-on inv m port ne less = kept (m * 8 + port) (λ e. ne (omega (arith, e, less, small))) ∙ inv m port ne less

  pub left-on : ((p : ℕ) → q ≤ p → p < 8 → get_or now (node * 8 + p) [] ≡ get_or initial (node * 8 + p) []) → (p : ℕ) → q + 1 ≤ p → p < 8 → get_or next (node * 8 + p) [] ≡ get_or initial (node * 8 + p) []
  left-on inv p late less = kept (node * 8 + p) (λ e. absurd (omega (arith, e, late))) ∙ inv p (omega (arith, late)) less
