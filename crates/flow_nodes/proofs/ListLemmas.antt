-- Members of lists by their places.
use Rattle.std.proofs.Common.{◌≡◌, ℕ, zero, suc, ◌+◌, ◌<◌, Option, Some, List, [], ◌∷◌, length, set, get_or, map, refl, ap, arith}
use Rattle.std.specs.Prelude.{slice_get}
use Rattle.std.specs.Option.{option_map}
use Rattle.std.proofs.lemmas.Option.{slice_get_read}
use Rattle.flow_item.specs.Lists.{map_places}
use Rattle.flow_node.specs.Readied.{Readied}
use Rattle.flow_nodes.specs.Stepping.{node_of}

-- what an index reads
pub read-at : {X : Type 0} {old now : List X} (at : ℕ) (x : X) → old ≡ now → at < length now → x ≡ get_or old at x → slice_get now at ≡ Some x
read-at {X} {old} {now} at x view within read = slice_get_read now (length now) at x refl within (rw (← view) read)

pub get-set-same : {X : Type 0} (xs : List X) (i : ℕ) (x y : X) → slice_get xs i ≡ Some y → slice_get (set xs i x) i ≡ Some x
get-set-same [] i x y h = cc
get-set-same (z ∷ xs) zero x y h = refl
get-set-same (z ∷ xs) (suc i) x y h = get-set-same xs i x y h

pub get-set-other : {X : Type 0} (xs : List X) (i j : ℕ) (x : X) → (i ≡ j → ⊥) → slice_get (set xs i x) j ≡ slice_get xs j
get-set-other [] i j x h = refl
get-set-other (z ∷ xs) zero zero x h = absurd (h refl)
get-set-other (z ∷ xs) zero (suc j) x h = refl
get-set-other (z ∷ xs) (suc i) zero x h = refl
get-set-other (z ∷ xs) (suc i) (suc j) x h = get-set-other xs i j x (λ e. h (ap suc e))

-- lists with the same members are equal
pub same-by-get : {X : Type 0} (xs ys : List X) → ((k : ℕ) → slice_get xs k ≡ slice_get ys k) → xs ≡ ys
same-by-get [] [] h = refl
same-by-get [] (y ∷ ys) h = let e = h 0 in cc
same-by-get (x ∷ xs) [] h = let e = h 0 in cc
same-by-get {X} (x ∷ xs) (y ∷ ys) h =
    let front : x ≡ y = front_of (h 0) in
    let rest : xs ≡ ys = same-by-get xs ys (λ k. h (suc k)) in
    cc
  where
    front_of : {X : Type 0} {x y : X} → ◌≡◌ {A = Option X} (Some x) (Some y) → x ≡ y
    front_of e = cc

pub get-map_places : {X Y : Type 0} (f : ℕ → X → Y) (n : ℕ) (xs : List X) (k j : ℕ) → j ≡ n + k → slice_get (map_places f n xs) k ≡ option_map (f j) (slice_get xs k)
get-map_places f n [] k j e = refl
get-map_places f n (x ∷ xs) zero j e = let here : n ≡ j = omega arith in rw here
get-map_places f n (x ∷ xs) (suc k) j e = get-map_places f (suc n) xs k j (omega arith)

-- the nodes, where one is written over by itself
pub same-nodes : (xs : List Readied) (i : ℕ) (x y : Readied) → slice_get xs i ≡ Some y → x.node ≡ y.node → map node_of (set xs i x) ≡ map node_of xs
same-nodes [] i x y h e = refl
same-nodes (z ∷ xs) zero x y h e = let same : z ≡ y = cc in rw (same, e)
same-nodes (z ∷ xs) (suc i) x y h e = let rest = same-nodes xs i x y h e in rw rest
