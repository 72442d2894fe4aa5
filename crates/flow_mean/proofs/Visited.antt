-- One more node is looked at.
use Rattle.std.proofs.Common.{◌⊎◌, inl, inr, ◌≡◌, ℕ, zero, suc, ◌+◌, ◌*◌, ◌≤◌, ◌<◌, Bool, true, false, not, cond, ◌&&◌, ◌||◌, eqb, ltb, leb, Option, Some, None, List, [], ◌∷◌, ◌++◌, length, get_or, set, refl, sym, ap, subst, ◌∙◌, arith, eq-eqb, get_or-set_other, get_or-set_same}
use Rattle.std.proofs.lemmas.Bool.{eqb-true, ltb-true, leb-true}
use Rattle.std.proofs.lemmas.List.FromFn.{get_or-map-range_with_len}
use Rattle.std.specs.Prelude.{slice_get, map, filter}
use Rattle.std.specs.List.{flat_map, list_any, range_with_len}
use Rattle.flow_item.specs.Lists.{has, is_empty}
use Rattle.flow_item.specs.Pairs.{Pair}
use Rattle.flow_item.proofs.Tests.{and_left, and_right}
use Rattle.flow_shape.specs.declared.Kind.{Kind}
use Rattle.flow_shape.specs.declared.Kind.TheVariants as K
use Rattle.flow_shape.specs.declared.Edge.{Edge}
use Rattle.flow_shape.specs.declared.Shape.{Shape}
use Rattle.flow_shape.specs.Kinds.{inputs}
use Rattle.flow_shape.specs.Wiring.{is_some_and, at_node, edges_leaving, edges_into}
use Rattle.flow_shape.specs.Rules.{IsValid, has_good_ports}
use Rattle.flow_shape.proofs.Valid.{valid-ports, valid-joins_nodes}
use Rattle.flow_machine.specs.Bodies.{Meanings}
use Rattle.flow_doc.specs.declared.Doc.{Doc}
use Rattle.flow_mean.specs.Maps.{TagMap, map_of, run_from, past_run, join_of, has_repeat}
use Rattle.flow_mean.specs.Meaning.{put_to, is_sequencer, through, passed_by, passed_at, passes_of, arrivals, arrives, kept_at, pairs_into, into}
use Rattle.flow_mean.specs.Determinate.{is_orderly, repeats_tag}
use Rattle.flow_mean.specs.Passing.{AreSources, brought, brought_to, maps_at, repeats_at, kept_by, HasSizes, Knows, Passes, IsFound, Awaits}
use Rattle.flow_mean.proofs.Steady.{into-same, passes-steady}
use Rattle.flow_mean.proofs.Grouped.{Early}

-- ---- lists

get-below : {X : Type 0} (xs : List X) (i : ℕ) (x : X) → slice_get xs i ≡ Some x → i < length xs
get-below [] i x h = cc
get-below (y ∷ ys) zero x h = omega arith
get-below (y ∷ ys) (suc i) x h = let less : i < length ys = get-below ys i x h in omega (arith, less)

flat-map-map : {X Y Z : Type 0} (f : Y → List Z) (g : X → Y) (xs : List X) → flat_map f (map g xs) ≡ flat_map (λ x. f (g x)) xs
flat-map-map f g [] = refl
flat-map-map f g (x ∷ xs) = ap (λ l. f (g x) ++ l) (flat-map-map f g xs)

-- functions that agree on the numbers from a on below a bound
any-range : (p q : ℕ → Bool) (a n bound : ℕ) → a + n ≤ bound → ((i : ℕ) → i < bound → p i ≡ q i) → list_any p (range_with_len a n) ≡ list_any q (range_with_len a n)
any-range p q a zero bound most h = refl
any-range p q a (suc n) bound most h = rw (h a (omega (arith, most)), any-range p q (a + 1) n bound (omega (arith, most)) h)

map-range : {X : Type 0} (f g : ℕ → X) (a n bound : ℕ) → a + n ≤ bound → ((i : ℕ) → i < bound → f i ≡ g i) → map f (range_with_len a n) ≡ map g (range_with_len a n)
map-range f g a zero bound most h = refl
map-range {X} f g a (suc n) bound most h = both (h a (omega (arith, most))) (map-range f g (a + 1) n bound (omega (arith, most)) h)
  where
    both : {x y : X} {xs ys : List X} → x ≡ y → xs ≡ ys → x ∷ xs ≡ y ∷ ys
    both p q = λ i. p i ∷ q i

has-last : (ns : List ℕ) (m n : ℕ) → has (ns ++ m ∷ []) n ≡ true → eqb m n ≡ false → has ns n ≡ true
has-last [] m n h e = by (eqb m n) e h
  where
    by : (b : Bool) → b ≡ false → (b || false) ≡ true → false ≡ true
    by true q k = cc
    by false q k = k
has-last (x ∷ xs) m n h e = by (eqb x n) h (λ k. has-last xs m n k e)
  where
    by : (b : Bool) → (b || has (xs ++ m ∷ []) n) ≡ true → (has (xs ++ m ∷ []) n ≡ true → has xs n ≡ true) → (b || has xs n) ≡ true
    by true k later = refl
    by false k later = later k

has-front : (ns : List ℕ) (m n : ℕ) → has (ns ++ m ∷ []) n ≡ false → (has ns n ≡ false) × (eqb m n ≡ false)
has-front [] m n h = (refl, by (eqb m n) h)
  where
    by : (b : Bool) → (b || false) ≡ false → b ≡ false
    by true k = cc
    by false k = refl
has-front (x ∷ xs) m n h = by (eqb x n) h (has-front xs m n)
  where
    by : (b : Bool) → (b || has (xs ++ m ∷ []) n) ≡ false → (has (xs ++ m ∷ []) n ≡ false → (has xs n ≡ false) × (eqb m n ≡ false)) → ((b || has xs n) ≡ false) × (eqb m n ≡ false)
    by true k later = cc
    by false k later = later k

apart-eqb : (m n : ℕ) → eqb m n ≡ false → (n ≡ m → ⊥)
apart-eqb m n e q = let clash : true ≡ false = sym (eq-eqb m n (sym q)) ∙ e in cc

-- ---- what a node passes

-- a node passes what its ports have, whatever is said of other ports
passed-ports : (meanings : Meanings) (k : Kind) (f g : ℕ → TagMap) → is_orderly k ≡ true → ((port : ℕ) → port < inputs k → f port ≡ g port) → passed_by meanings k f ≡ passed_by meanings k g
passed-ports m (K.Buffer capacity) f g o h = h 0 (omega arith)
passed-ports m (K.Queue capacity) f g o h = h 0 (omega arith)
passed-ports m K.Priority f g o h = h 0 (omega arith)
passed-ports m K.Sequencer f g o h = ap (run_from 0) (h 0 (omega arith))
passed-ports m (K.Function reject limit body arg) f g o h = ap (λ x. map_of (flat_map (through m body arg) x)) (h 0 (omega arith))
passed-ports m (K.KeyJoin ports) f g o h = ap join_of (map-range f g 0 ports ports (omega arith) h)
passed-ports m K.Overwrite f g o h = refl
passed-ports m K.WriteOnce f g o h = refl
passed-ports m (K.Multi reject limit body arg outs) f g o h = refl
passed-ports m (K.Async reject limit arg) f g o h = refl
passed-ports m (K.Input body arg) f g o h = refl
passed-ports m (K.Limiter threshold by_value) f g o h = refl
passed-ports m (K.QueueJoin ports) f g o h = refl
passed-ports m (K.HoldJoin ports) f g o h = refl
passed-ports m (K.Continue body arg) f g o h = refl
passed-ports m K.Broadcast f g o h = refl
passed-ports m (K.Split outs) f g o h = refl

ports-join : (n : ℕ) → (leb 1 n && leb n 8) ≡ true → (1 ≤ n) × (n ≤ 8)
ports-join n g = (leb-true 1 n (and_left (leb 1 n) (leb n 8) g), leb-true n 8 (and_right (leb 1 n) (leb n 8) g))

pub orderly-ports : (k : Kind) → is_orderly k ≡ true → has_good_ports k ≡ true → (1 ≤ inputs k) × (inputs k ≤ 8)
orderly-ports (K.KeyJoin ports) o g = ports-join ports g
orderly-ports (K.Buffer capacity) o g = (omega arith, omega arith)
orderly-ports (K.Queue capacity) o g = (omega arith, omega arith)
orderly-ports K.Priority o g = (omega arith, omega arith)
orderly-ports K.Sequencer o g = (omega arith, omega arith)
orderly-ports (K.Function reject limit body arg) o g = (omega arith, omega arith)
orderly-ports k o g = cc

module _ (meanings : Meanings) (doc : Doc) (done : List ℕ) (node : ℕ) (k : Kind) (sources : List (List ℕ)) (passed puts : List (List Pair))
    (valid : IsValid doc.shape) (early : Early meanings doc) (at : slice_get doc.shape.nodes node ≡ Some k) (are : AreSources doc.shape sources)
    (new : has done node ≡ false) (awaits : Awaits doc.shape done node) (before : Knows meanings doc done passed puts) where
  within : node < length doc.shape.nodes
  within = get-below doc.shape.nodes node k at

  joined : (i : ℕ) (e : Edge) → slice_get doc.shape.edges i ≡ Some e → (e.from < length doc.shape.nodes) × (e.to < length doc.shape.nodes)
  joined i e is =
      let both = valid-joins_nodes doc.shape i e valid is in
      (ltb-true _ _ (and_left (ltb e.from (length doc.shape.nodes)) _ both), ltb-true _ _ (and_right (ltb e.from (length doc.shape.nodes)) _ both))

  -- what is brought to a port is what arrives there
  pub brought-arrivals : (port : ℕ) → port < 8 → brought_to puts sources passed node port ≡ arrivals meanings doc node port
  brought-arrivals port small = λ i. before.left node port within small new i ++ edges i
    where
      edges : flat_map (λ s. get_or passed s []) (get_or sources (node * 8 + port) []) ≡ flat_map (λ (e : Edge). passes_of meanings doc e.from) (into meanings doc node port)
      edges =
          ap (λ (l : List ℕ). flat_map (λ s. get_or passed s []) l) (are.1 node port within small)
          ∙ flat-map-map (λ s. get_or passed s []) (λ (e : Edge). e.from) (edges_into doc.shape node port)
          ∙ into-same (λ (e : Edge). get_or passed e.from []) (λ (e : Edge). passes_of meanings doc e.from) (λ (e : Edge). eqb e.to node && eqb e.port port) doc.shape.edges
          (λ x e is t. before.passes e.from (joined x e is).0 (awaits x e is (eqb-true e.to node (and_left _ _ t))))

  ports : (1 ≤ inputs k) × (inputs k ≤ 8)
  ports = orderly-ports k (early.orderly node k at) (valid-ports doc.shape node k valid at)

  pub maps-arrive : (port : ℕ) → port < inputs k → get_or (maps_at (brought_to puts sources passed node) (inputs k)) port [] ≡ arrives meanings doc node port
  maps-arrive port less =
      let plus : 0 + port ≡ port = omega arith in
      let small : port < 8 = omega (arith, less, ports.1) in
      get_or-map-range_with_len (λ port. map_of (brought_to puts sources passed node port)) 0 (inputs k) port port [] less plus
      ∙ ap map_of (brought-arrivals port small)

  pub repeats-tell : repeats_at (brought_to puts sources passed node) (inputs k) ≡ repeats_tag meanings doc node k
  repeats-tell = any-range (λ port. has_repeat (brought_to puts sources passed node port)) (λ port. has_repeat (arrivals meanings doc node port)) 0 (inputs k) 8 (omega (arith, ports.1)) (λ port small. ap has_repeat (brought-arrivals port small))

  steady : passes_of meanings doc node ≡ passed_at meanings doc node (Some k) (λ port. arrives meanings doc node port)
  steady = passes-steady meanings doc joined early.acyclic node within ∙ ap (λ o. passed_at meanings doc node o (λ port. arrives meanings doc node port)) at

  -- a node without edges out passes nothing and keeps all
  pub ends-passes : is_empty (edges_leaving doc.shape node) ≡ true → [] ≡ passes_of meanings doc node
  ends-passes none = sym (steady ∙ ap (λ b. cond b [] (passed_by meanings k (λ port. arrives meanings doc node port))) none)

  pub ends-keeps : is_empty (edges_leaving doc.shape node) ≡ true → get_or (maps_at (brought_to puts sources passed node) (inputs k)) 0 [] ≡ kept_at meanings doc node
  ends-keeps none = maps-arrive 0 (omega (arith, ports.0)) ∙ sym (ap (λ b. cond b (arrives meanings doc node 0) (past_run 0 (arrives meanings doc node 0))) none)

  -- another passes what its kind makes of what arrives
  pub gives-passes : is_empty (edges_leaving doc.shape node) ≡ false → passed_by meanings k (λ port. get_or (maps_at (brought_to puts sources passed node) (inputs k)) port []) ≡ passes_of meanings doc node
  gives-passes some =
      passed-ports meanings k (λ port. get_or (maps_at (brought_to puts sources passed node) (inputs k)) port []) (λ port. arrives meanings doc node port) (early.orderly node k at) maps-arrive
      ∙ sym (steady ∙ ap (λ b. cond b [] (passed_by meanings k (λ port. arrives meanings doc node port))) some)

  pub gives-keeps : is_empty (edges_leaving doc.shape node) ≡ false → is_sequencer k ≡ true → kept_by k (get_or (maps_at (brought_to puts sources passed node) (inputs k)) 0 []) ≡ kept_at meanings doc node
  gives-keeps some seq =
      ap (λ b. cond b (past_run 0 (get_or (maps_at (brought_to puts sources passed node) (inputs k)) 0 [])) []) seq
      ∙ ap (past_run 0) (maps-arrive 0 (omega (arith, ports.0)))
      ∙ sym (ap (λ b. cond b (arrives meanings doc node 0) (past_run 0 (arrives meanings doc node 0))) some)

  pub found-ends : is_empty (edges_leaving doc.shape node) ≡ true → (p q : List Pair) (r : Bool) → p ≡ [] → q ≡ get_or (maps_at (brought_to puts sources passed node) (inputs k)) 0 [] → r ≡ repeats_at (brought_to puts sources passed node) (inputs k) → IsFound meanings doc node p q r
  found-ends none p q r a b c = record {
    passes = a ∙ ends-passes none;
    keeps = λ h. b ∙ ends-keeps none;
    tells = λ l there. c ∙ tell l there;
  }
    where
      tell : (l : Kind) → slice_get doc.shape.nodes node ≡ Some l → repeats_at (brought_to puts sources passed node) (inputs k) ≡ repeats_tag meanings doc node l
      tell l there = let two : Some k ≡ Some l = sym at ∙ there in let one : k ≡ l = cc in subst (λ x. repeats_at (brought_to puts sources passed node) (inputs k) ≡ repeats_tag meanings doc node x) one repeats-tell

  pub found-gives : is_empty (edges_leaving doc.shape node) ≡ false → (p q : List Pair) (r : Bool) → p ≡ passed_by meanings k (λ port. get_or (maps_at (brought_to puts sources passed node) (inputs k)) port []) → q ≡ kept_by k (get_or (maps_at (brought_to puts sources passed node) (inputs k)) 0 []) → r ≡ repeats_at (brought_to puts sources passed node) (inputs k) → IsFound meanings doc node p q r
  found-gives some p q r a b c = record {
    passes = a ∙ gives-passes some;
    keeps = λ h. b ∙ gives-keeps some (subst (λ o. is_some_and is_sequencer o ≡ true) at h);
    tells = λ l there. c ∙ tell l there;
  }
    where
      tell : (l : Kind) → slice_get doc.shape.nodes node ≡ Some l → repeats_at (brought_to puts sources passed node) (inputs k) ≡ repeats_tag meanings doc node l
      tell l there = let two : Some k ≡ Some l = sym at ∙ there in let one : k ≡ l = cc in subst (λ x. repeats_at (brought_to puts sources passed node) (inputs k) ≡ repeats_tag meanings doc node x) one repeats-tell

-- with what was found of the node
pub visited : (meanings : Meanings) (doc : Doc) (done : List ℕ) (node : ℕ) (passed kept puts : List (List Pair)) (repeats : List Bool) → node < length doc.shape.nodes → HasSizes doc passed kept puts repeats → Passes meanings doc done passed kept puts repeats →
    (p q : List Pair) (r : Bool) (others : List (List Pair)) → IsFound meanings doc node p q r →
    ((m port : ℕ) → (m ≡ node → ⊥) → port < 8 → get_or others (m * 8 + port) [] ≡ get_or puts (m * 8 + port) []) →
    Passes meanings doc (done ++ node ∷ []) (set passed node p) (set kept node q) others (set repeats node r)
visited meanings doc done node passed kept puts repeats within sizes before p q r others found same = record {
  known = record {
    passes = λ n less h. by_passes n (eqb node n) refl less h;
    left = λ n port less small h. let apart = has-front done node n h in same n port (apart-eqb node n apart.1) small ∙ before.known.left n port less small apart.0;
  };
  keeps = λ n less h seq. by_keeps n (eqb node n) refl less h seq;
  tells = λ n l there h. by_tells n l (eqb node n) refl there h;
}
  where
    by_passes : (n : ℕ) (b : Bool) → eqb node n ≡ b → n < length doc.shape.nodes → has (done ++ node ∷ []) n ≡ true → get_or (set passed node p) n [] ≡ passes_of meanings doc n
    by_passes n true e less h =
        let is : node ≡ n = eqb-true node n e in
        let room : node < length passed = omega (arith, within, sizes.passed_size) in
        let here : get_or (set passed node p) node [] ≡ passes_of meanings doc node = get_or-set_same passed node p [] room ∙ found.passes in
        subst (λ x. get_or (set passed node p) x [] ≡ passes_of meanings doc x) is here
    by_passes n false e less h = let ne : n ≡ node → ⊥ = apart-eqb node n e in get_or-set_other passed node n p [] ne ∙ before.known.passes n less (has-last done node n h e)

    by_keeps : (n : ℕ) (b : Bool) → eqb node n ≡ b → n < length doc.shape.nodes → has (done ++ node ∷ []) n ≡ true → at_node doc.shape n is_sequencer ≡ true → get_or (set kept node q) n [] ≡ kept_at meanings doc n
    by_keeps n true e less h seq =
        let is : node ≡ n = eqb-true node n e in
        let room : node < length kept = omega (arith, within, sizes.kept_size) in
        let it : at_node doc.shape node is_sequencer ≡ true = subst (λ x. at_node doc.shape x is_sequencer ≡ true) (sym is) seq in
        let here : get_or (set kept node q) node [] ≡ kept_at meanings doc node = get_or-set_same kept node q [] room ∙ found.keeps it in
        subst (λ x. get_or (set kept node q) x [] ≡ kept_at meanings doc x) is here
    by_keeps n false e less h seq = let ne : n ≡ node → ⊥ = apart-eqb node n e in get_or-set_other kept node n q [] ne ∙ before.keeps n less (has-last done node n h e) seq

    by_tells : (n : ℕ) (l : Kind) (b : Bool) → eqb node n ≡ b → slice_get doc.shape.nodes n ≡ Some l → has (done ++ node ∷ []) n ≡ true → get_or (set repeats node r) n false ≡ repeats_tag meanings doc n l
    by_tells n l true e there h =
        let is : node ≡ n = eqb-true node n e in
        let room : node < length repeats = omega (arith, within, sizes.repeats_size) in
        let it : slice_get doc.shape.nodes node ≡ Some l = ap (slice_get doc.shape.nodes) is ∙ there in
        let here : get_or (set repeats node r) node false ≡ repeats_tag meanings doc node l = get_or-set_same repeats node r false room ∙ found.tells l it in
        subst (λ x. get_or (set repeats node r) x false ≡ repeats_tag meanings doc x l) is here
    by_tells n l false e there h = let ne : n ≡ node → ⊥ = apart-eqb node n e in get_or-set_other repeats node n r false ne ∙ before.tells n l there (has-last done node n h e)
