-- A walk along an order in which each edge goes forwards.
use Rattle.std.proofs.Common.{◌≡◌, ℕ, zero, suc, ◌+◌, ◌*◌, ◌≤◌, ◌<◌, Bool, true, false, cond, ◌&&◌, eqb, ltb, leb, Some, List, [], ◌∷◌, ◌++◌, length, get_or, set, take, drop, refl, sym, ap, subst, ◌∙◌, arith, eq-eqb}
use Rattle.std.proofs.lemmas.Bool.{leb-true, lt-ltb, ltb-true, eqb-true}
use Rattle.std.proofs.lemmas.List.{length-set}
use Rattle.std.proofs.lemmas.List.{take_more, take_all, drop_all, append-nil}
use Rattle.std.proofs.lemmas.List.FromFn.{length-map-range_with_len}
use Rattle.std.proofs.lemmas.Option.{slice_get_read}
use Rattle.std.specs.Prelude.{slice_get, map, filter}
use Rattle.std.specs.List.{list_all, range_with_len, AllByRecursion}
use Rattle.flow_item.specs.Lists.{has, is_empty}
use Rattle.flow_item.specs.Pairs.{Pair}
use Rattle.flow_item.proofs.Tests.{and_left, and_right}
use Rattle.flow_shape.specs.declared.Kind.{Kind}
use Rattle.flow_shape.specs.declared.Kind.TheVariants as K
use Rattle.flow_shape.specs.declared.Edge.{Edge}
use Rattle.flow_shape.specs.declared.Shape.{Shape}
use Rattle.flow_shape.specs.Kinds.{inputs}
use Rattle.flow_shape.specs.Wiring.{is_some_and, edges_leaving}
use Rattle.flow_shape.specs.Rules.{IsValid, failures, joins_nodes}
use Rattle.flow_shape.specs.Orders.{HasCycle, is_order}
use Rattle.flow_shape.proofs.Orders.{valid_joined}
use Rattle.flow_shape.proofs.Valid.{none_fails, valid-ports}
use Rattle.flow_shape.proofs.Sorting.{all-at}
use Rattle.flow_machine.specs.Bodies.{Meanings}
use Rattle.flow_doc.specs.declared.Doc.{Doc}
use Rattle.flow_mean.specs.Maps.{TagMap, map_of}
use Rattle.flow_mean.specs.Meaning.{is_sequencer, passed_by, passes_of, kept_at, is_shown_at, meaning}
use Rattle.flow_doc.specs.Fits.{kind_fits}
use Rattle.flow_mean.specs.Determinate.{is_orderly, has_loose_body}
use Rattle.flow_mean.specs.Judging.{has_free_body, AreOuts}
use Rattle.flow_mean.specs.Passing.{ArePuts, AreSources, Rising, brought_to, maps_at, repeats_at, kept_by, HasSizes, Knows, Passes, IsFound, Awaits, IsTidy}
use Rattle.flow_mean.specs.Whole.{IsWhole, meant_at}
use Rattle.flow_mean.specs.declared.judge.Meant.{Meant}
use Rattle.flow_mean.specs.declared.flow.Flow.{Flow}
use Rattle.flow_mean.proofs.Grouped.{Early, early-none}
use Rattle.flow_mean.proofs.Visited.{orderly-ports, found-ends, found-gives, visited}
use Rattle.flow_mean.proofs.Reached.{no-cycle-left}
use Rattle.flow_mean.proofs.Rising.{map_of-rises}
use Rattle.flow_mean.proofs.Ordered.{order-whole}

-- ---- a valid shape

record Few (shape : Shape) : Type 0 where
  pub nodes : length shape.nodes ≤ 512
  pub edges : length shape.edges ≤ 4096

few : (shape : Shape) → IsValid shape → Few shape
few shape valid = record {
  nodes = leb-true _ _ (by_test (leb (length shape.nodes) 512) _ (none_fails (failures shape) 0 _ valid refl));
  edges = leb-true _ _ (by_test (leb (length shape.edges) 4096) _ (none_fails (failures shape) 1 _ valid refl));
}
  where
    by_test : (b : Bool) (n : ℕ) → cond b [] (n ∷ []) ≡ [] → b ≡ true
    by_test true n h = refl
    by_test false n h = cc

pub few-nodes : (shape : Shape) → IsValid shape → length shape.nodes < 4096
few-nodes shape valid = let most : length shape.nodes ≤ 512 = (few shape valid).nodes in omega (arith, most)

pub few-edges : (shape : Shape) → IsValid shape → length shape.edges ≤ 4096
few-edges shape valid = (few shape valid).edges

pub no-cycle : (meanings : Meanings) (doc : Doc) → IsValid doc.shape → IsTidy meanings doc → HasCycle doc.shape → ⊥
no-cycle meanings doc valid tidy = no-cycle-left doc.shape valid (early-none meanings doc tidy).acyclic

-- ---- the sources of a port

from-within : (n : ℕ) (test : Edge → Bool) (es : List Edge) → ((i : ℕ) (e : Edge) → slice_get es i ≡ Some e → e.from < n) → list_all (λ s. ltb s n) (map (λ (e : Edge). e.from) (filter test es)) ≡ true
from-within n test [] h = refl
from-within n test (e ∷ es) h = by (test e) (lt-ltb e.from n (h 0 e refl)) (from-within n test es (λ i. h (suc i)))
  where
    by : (c : Bool) → ltb e.from n ≡ true → list_all (λ s. ltb s n) (map (λ (e : Edge). e.from) (filter test es)) ≡ true → list_all (λ s. ltb s n) (map (λ (e : Edge). e.from) (cond c (e ∷ filter test es) (filter test es))) ≡ true
    by true k later = rw k later
    by false k later = later

pub sources-within : (shape : Shape) (sources : List (List ℕ)) (passed : List TagMap) (node port : ℕ) → IsValid shape → AreSources shape sources → length passed ≡ length shape.nodes → node < length shape.nodes → port < 8 → list_all (λ s. ltb s (length passed)) (get_or sources (node * 8 + port) []) ≡ true
sources-within shape sources passed node port valid are size less small =
    ap (λ m. list_all (λ s. ltb s m) (get_or sources (node * 8 + port) [])) size
    ∙ ap (list_all (λ s. ltb s (length shape.nodes))) (are.1 node port less small)
    ∙ from-within (length shape.nodes) (λ (e : Edge). eqb e.to node && eqb e.port port) shape.edges
    (λ i e at. ltb-true _ _ (and_left (ltb e.from (length shape.nodes)) _ (all-at (joins_nodes shape) shape.edges i e (valid_joined shape valid) at)))

-- ---- maps that rise

all-rise : (at : ℕ → List Pair) (a n : ℕ) → AllByRecursion Rising (map (λ port. map_of (at port)) (range_with_len a n))
all-rise at a zero = tt
all-rise at a (suc n) = (record { rises = map_of-rises (at a) }, all-rise at (a + 1) n)

pub maps-rise : (maps : List TagMap) (at : ℕ → List Pair) (n : ℕ) → maps ≡ maps_at at n → AllByRecursion Rising maps
maps-rise maps at n h = subst (AllByRecursion Rising) (sym h) (all-rise at 0 n)

pub free-is : (meanings : Meanings) (doc : Doc) (n : ℕ) (k : Kind) → has_loose_body meanings doc n k ≡ false → has_free_body meanings k ≡ false
free-is m doc n (K.Function reject limit body arg) h = h
free-is m doc n k h = refl

-- ---- a node

pub ends-is : (outs : List ℕ) (shape : Shape) (n x : ℕ) → AreOuts shape outs → n < length shape.nodes → x ≡ get_or outs n 0 → eqb x 0 ≡ is_empty (edges_leaving shape n)
ends-is outs shape n x are less read = by (edges_leaving shape n) (read ∙ are.1 n less)
  where
    by : (es : List ℕ) → x ≡ length es → eqb x 0 ≡ is_empty es
    by [] h = eq-eqb x 0 h
    by (e ∷ es) h = never (eqb x 0) refl
      where
        never : (b : Bool) → eqb x 0 ≡ b → b ≡ false
        never true t = let none : x ≡ 0 = eqb-true x 0 t in absurd (omega (arith, none, h))
        never false t = refl

module _ (meanings : Meanings) (doc : Doc) (done : List ℕ) (node : ℕ) (k : Kind) (sources : List (List ℕ)) (passed puts : List (List Pair))
    (valid : IsValid doc.shape) (tidy : IsTidy meanings doc) (at : slice_get doc.shape.nodes node ≡ Some k) (are : AreSources doc.shape sources)
    (new : has done node ≡ false) (awaits : Awaits doc.shape done node) (before : Knows meanings doc done passed puts) where
  pub found-of : (b : Bool) → b ≡ is_empty (edges_leaving doc.shape node) → (p q : List Pair) (r : Bool) (maps : List TagMap) → maps ≡ maps_at (brought_to puts sources passed node) (inputs k) →
      p ≡ cond b [] (passed_by meanings k (λ port. get_or maps port [])) → q ≡ cond b (get_or maps 0 []) (kept_by k (get_or maps 0 [])) → r ≡ repeats_at (brought_to puts sources passed node) (inputs k) → IsFound meanings doc node p q r
  found-of true e p q r maps same a b c =
      found-ends meanings doc done node k sources passed puts valid (early-none meanings doc tidy) at are new awaits before (sym e) p q r a (b ∙ ap (λ (l : List TagMap). get_or l 0 []) same) c
  found-of false e p q r maps same a b c =
      found-gives meanings doc done node k sources passed puts valid (early-none meanings doc tidy) at are new awaits before (sym e) p q r
      (a ∙ ap (λ (l : List TagMap). passed_by meanings k (λ port. get_or l port [])) same) (b ∙ ap (λ (l : List TagMap). kept_by k (get_or l 0 [])) same) c

-- ---- the walk

module _ (meanings : Meanings) (doc : Doc) (order : List ℕ) where
  pub walk-begins : (passed kept puts : List (List Pair)) (repeats : List Bool) → ArePuts doc puts → Passes meanings doc (take 0 order) passed kept puts repeats
  walk-begins passed kept puts repeats are = record {
    known = record {
      passes = λ n less h. let clash : false ≡ true = h in cc;
      left = λ n port less small h. are.1 n port less small;
    };
    keeps = λ n less h seq. let clash : false ≡ true = h in cc;
    tells = λ n k there h. let clash : false ≡ true = h in cc;
  }

  pub walk-on : (i node : ℕ) (passed kept puts : List (List Pair)) (repeats : List Bool) → i < length order → node ≡ get_or order i 0 → Passes meanings doc (take i order ++ node ∷ []) passed kept puts repeats → Passes meanings doc (take (i + 1) order) passed kept puts repeats
  walk-on i node passed kept puts repeats less is h =
      subst (λ (l : List ℕ). Passes meanings doc l passed kept puts repeats) (sym (take_more order i 0 less ∙ ap (λ n. take i order ++ n ∷ []) (sym is))) h

  pub walk-ends : is_order doc.shape order ≡ true → (i : ℕ) (flow : Flow) → length order ≤ i → HasSizes doc flow.passed.items flow.kept.items flow.puts.items flow.repeats.items → Passes meanings doc (take i order) flow.passed.items flow.kept.items flow.puts.items flow.repeats.items → IsWhole meanings doc flow
  walk-ends is i flow most sizes h =
      let whole : Passes meanings doc order flow.passed.items flow.kept.items flow.puts.items flow.repeats.items = subst (λ (l : List ℕ). Passes meanings doc l flow.passed.items flow.kept.items flow.puts.items flow.repeats.items) (take_all i order most) h in
      record {
        passed_size = sizes.passed_size;
        kept_size = sizes.kept_size;
        passes = λ n less. whole.known.passes n less (order-whole doc.shape order is n less);
        keeps = λ n less. whole.keeps n less (order-whole doc.shape order is n less);
        tells = (sizes.repeats_size, λ n k there. whole.tells n k there (order-whole doc.shape order is n (get-below doc.shape.nodes n k there)));
      }
    where
      get-below : (xs : List Kind) (i : ℕ) (x : Kind) → slice_get xs i ≡ Some x → i < length xs
      get-below [] i x h = cc
      get-below (y ∷ ys) zero x h = omega arith
      get-below (y ∷ ys) (suc i) x h = let less : i < length ys = get-below ys i x h in omega (arith, less)

-- ---- the meaning of a node

pub meaning-of : (meanings : Meanings) (doc : Doc) (flow : Flow) (n : ℕ) (b : Bool) (r : TagMap) → IsWhole meanings doc flow → n < length doc.shape.nodes → b ≡ is_shown_at meanings doc n → r ≡ cond b (get_or flow.kept.items n []) (get_or flow.passed.items n []) → r ≡ meaning meanings doc n
meaning-of meanings doc flow n true r whole less e h =
    h ∙ whole.keeps n less (and_right (has doc.sinks n) (is_some_and is_sequencer (slice_get doc.shape.nodes n)) (sym e))
    ∙ ap (λ b. cond b (kept_at meanings doc n) (passes_of meanings doc n)) e
meaning-of meanings doc flow n false r whole less e h = h ∙ whole.passes n less ∙ ap (λ b. cond b (kept_at meanings doc n) (passes_of meanings doc n)) e

-- ---- what a node's kind is

module _ (meanings : Meanings) (doc : Doc) (valid : IsValid doc.shape) (tidy : IsTidy meanings doc) (node : ℕ) (items : List Kind) (k : Kind) (same : items ≡ doc.shape.nodes) (within : node < length doc.shape.nodes) (read : k ≡ get_or items node k) where
  pub kind-there : slice_get doc.shape.nodes node ≡ Some k
  kind-there = subst (λ (l : List Kind). slice_get l node ≡ Some k) same (slice_get_read items (length items) node k refl (omega (arith, within, ap length same)) read)

  early : Early meanings doc
  early = early-none meanings doc tidy

  pub kind-orderly : is_orderly k ≡ true
  kind-orderly = early.orderly node k kind-there

  pub kind-tied : has_free_body meanings k ≡ false
  kind-tied = free-is meanings doc node k (early.tied node k kind-there)

  pub kind-ports : (p : ℕ) → p ≡ inputs k → p ≤ 8
  kind-ports p h = let most : inputs k ≤ 8 = (orderly-ports k kind-orderly (valid-ports doc.shape node k valid kind-there)).1 in omega (arith, most, h)

  pub kind-fitting : (n : ℕ) → list_all (kind_fits n) doc.shape.nodes ≡ true → kind_fits n k ≡ true
  kind-fitting n h = all-at (kind_fits n) doc.shape.nodes node k h kind-there

-- as many maps as ports
pub maps-count : (maps : List TagMap) (at : ℕ → List Pair) (n m : ℕ) → n ≡ m → maps ≡ maps_at at n → length maps ≡ m
maps-count maps at n m e h = ap length h ∙ length-map-range_with_len (λ port. map_of (at port)) 0 n ∙ e

-- ---- one more node, as the code leaves it

module _ (meanings : Meanings) (doc : Doc) (node : ℕ) (passed kept puts : List (List Pair)) (repeats : List Bool)
    (p q : List Pair) (r : Bool) (others : List (List Pair)) (next_passed next_kept next_puts : List (List Pair)) (next_repeats : List Bool)
    (a : next_passed ≡ set passed node p) (b : next_kept ≡ set kept node q) (c : next_puts ≡ others) (d : next_repeats ≡ set repeats node r)
    (sizes : HasSizes doc passed kept puts repeats) where
  pub sizes-on : length others ≡ length puts → HasSizes doc next_passed next_kept next_puts next_repeats
  sizes-on h = record {
    passed_size = ap length a ∙ length-set passed node p ∙ sizes.passed_size;
    kept_size = ap length b ∙ length-set kept node q ∙ sizes.kept_size;
    repeats_size = ap length d ∙ length-set repeats node r ∙ sizes.repeats_size;
    puts_size = ap length c ∙ h ∙ sizes.puts_size;
  }

  pub visit-on : (done : List ℕ) (seen lent : List (List Pair)) → node < length doc.shape.nodes → seen ≡ passed → lent ≡ puts → Passes meanings doc done passed kept puts repeats →
      (Knows meanings doc done seen lent → IsFound meanings doc node p q r) →
      ((m port : ℕ) → (m ≡ node → ⊥) → port < 8 → get_or others (m * 8 + port) [] ≡ get_or lent (m * 8 + port) []) →
      Passes meanings doc (done ++ node ∷ []) next_passed next_kept next_puts next_repeats
  visit-on done seen lent within e f before found same =
      subst (λ (l : List (List Pair)). Passes meanings doc (done ++ node ∷ []) l next_kept next_puts next_repeats) (sym a)
      (subst (λ (l : List (List Pair)). Passes meanings doc (done ++ node ∷ []) (set passed node p) l next_puts next_repeats) (sym b)
      (subst (λ (l : List (List Pair)). Passes meanings doc (done ++ node ∷ []) (set passed node p) (set kept node q) l next_repeats) (sym c)
      (subst (λ (l : List Bool). Passes meanings doc (done ++ node ∷ []) (set passed node p) (set kept node q) others l) (sym d)
      (visited meanings doc done node passed kept puts repeats within sizes before p q r others
      (found (subst (λ (l : List (List Pair)). Knows meanings doc done l lent) (sym e) (subst (λ (l : List (List Pair)). Knows meanings doc done passed l) (sym f) before.known)))
      (λ m port ne less. same m port ne less ∙ ap (λ (l : List (List Pair)). get_or l (m * 8 + port) []) f)))))

-- a list that was lent as a slice
pub lent-all : {X : Type 0} (len : ℕ) (now old : List X) → length old ≡ len → length now ≡ length old → take len (now ++ drop (length now) old) ≡ now
lent-all len now old h same =
    let none : length old ≤ length now = omega (arith, same) in
    let most : length now ≤ len = omega (arith, same, h) in
    ap (λ (l : List _). take len (now ++ l)) (drop_all (length now) old none) ∙ ap (take len) (append-nil now) ∙ take_all len now most

-- what is shown of a node is its meaning
pub meant-is : (meanings : Meanings) (doc : Doc) (meant : Meant) (n : ℕ) → IsWhole meanings doc meant.flow → n < length doc.shape.nodes → meant_at doc meant n ≡ meaning meanings doc n
meant-is meanings doc meant n whole less = meaning-of meanings doc meant.flow n (is_shown_at meanings doc n) (meant_at doc meant n) whole less refl refl
