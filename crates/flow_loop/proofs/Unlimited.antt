-- A document without limiters is its own bare document, and no more tamed than it is determinate.
use Rattle.std.proofs.Common.{◌≡◌, ℕ, zero, suc, Bool, true, false, not, ◌&&◌, cond, Result, List, [], ◌∷◌, map, slice_get, refl, ap, ◌∙◌}
use Rattle.std.specs.Prelude.{⊤, nat_eq}
use Rattle.std.specs.List.{list_all, list_any, filter}
use Rattle.flow_item.proofs.Tests.{and_left, and_right}
use Rattle.flow_shape.specs.declared.Kind.{Kind}
use Rattle.flow_shape.specs.declared.Kind.TheVariants as K
use Rattle.flow_shape.specs.declared.Edge.{Edge}
use Rattle.flow_shape.specs.declared.Shape.{Shape}
use Rattle.flow_shape.specs.declared.Step.{Step}
use Rattle.flow_shape.specs.declared.Step.TheVariants as T
use Rattle.flow_shape.specs.Kinds.{is_limiter}
use Rattle.flow_shape.specs.Wiring.{is_some_and, at_node}
use Rattle.flow_doc.specs.Fields.{◌>>=◌}
use Rattle.flow_machine.specs.Bodies.{Meanings}
use Rattle.flow_doc.specs.declared.Doc.{Doc}
use Rattle.flow_mean.specs.Determinate.{determinate, nodes_where}
use Rattle.flow_loop.specs.declared.WildRule.{WildRule}
use Rattle.flow_loop.specs.declared.WildRule.TheVariants.{L1, L2, L3}
use Rattle.flow_loop.specs.Bare.{bare_kind, bare_shape, is_decrement, decrements, bare}
use Rattle.flow_loop.specs.Tamed.{holds, meets_main_rule, region, is_simple_limiter, is_decremented_by, is_decremented, may_change_count, has_strange_region, tamed}

abbrev pub is_free : Kind → Bool
is_free k = not (is_limiter k)

-- no node is a limiter
abbrev pub HasNoLimiter : Shape → Type 0
HasNoLimiter shape = list_all is_free shape.nodes ≡ true

not_true : (b : Bool) → not b ≡ true → b ≡ false
not_true true h = cc
not_true false h = refl

nowhere : (ks : List Kind) (n : ℕ) → list_all is_free ks ≡ true → is_some_and is_limiter (slice_get ks n) ≡ false
nowhere [] n h = refl
nowhere (k ∷ ks) zero h = not_true (is_limiter k) (and_left (is_free k) _ h)
nowhere (k ∷ ks) (suc n) h = nowhere ks n (and_right (is_free k) _ h)

kind_same : (k : Kind) → is_limiter k ≡ false → bare_kind k ≡ k
kind_same (K.Buffer capacity) h = refl
kind_same (K.Queue capacity) h = refl
kind_same K.Priority h = refl
kind_same K.Sequencer h = refl
kind_same K.Overwrite h = refl
kind_same K.WriteOnce h = refl
kind_same (K.Function reject limit body arg) h = refl
kind_same (K.Multi reject limit body arg outs) h = refl
kind_same (K.Async reject limit arg) h = refl
kind_same (K.Input body arg) h = refl
kind_same (K.Limiter threshold by_value) h = cc
kind_same (K.QueueJoin ports) h = refl
kind_same (K.KeyJoin ports) h = refl
kind_same (K.HoldJoin ports) h = refl
kind_same (K.Continue body arg) h = refl
kind_same K.Broadcast h = refl
kind_same (K.Split outs) h = refl

kinds_same : (ks : List Kind) → list_all is_free ks ≡ true → map bare_kind ks ≡ ks
kinds_same [] h = refl
kinds_same (k ∷ ks) h =
    let here : bare_kind k ≡ k = kind_same k (not_true (is_limiter k) (and_left (is_free k) _ h)) in
    ap (λ j. j ∷ map bare_kind ks) here ∙ ap (λ js. k ∷ js) (kinds_same ks (and_right (is_free k) _ h))

-- a filter that all pass
all_pass : {X : Type 0} (p : X → Bool) (xs : List X) → ((x : X) → p x ≡ true) → filter p xs ≡ xs
all_pass p [] h = refl
all_pass p (x ∷ xs) h = ap (λ b. cond b (x ∷ filter p xs) (filter p xs)) (h x) ∙ ap (λ ys. x ∷ ys) (all_pass p xs h)

scripts_same : (p : Step → Bool) (ss : List (List Step)) → ((s : Step) → p s ≡ true) → map (filter p) ss ≡ ss
scripts_same p [] h = refl
scripts_same p (s ∷ ss) h = ap (λ t. t ∷ map (filter p) ss) (all_pass p s h) ∙ ap (λ ts. s ∷ ts) (scripts_same p ss h)

none_where : (bad : ℕ → Kind → Bool) (n : ℕ) (ks : List Kind) → list_all is_free ks ≡ true → ((m : ℕ) (k : Kind) → is_limiter k ≡ false → bad m k ≡ false) → nodes_where bad n ks ≡ []
none_where bad n [] free h = refl
none_where bad n (k ∷ ks) free h =
    ap (λ b. cond b (n ∷ nodes_where bad (suc n) ks) (nodes_where bad (suc n) ks)) (h n k (not_true (is_limiter k) (and_left (is_free k) _ free)))
    ∙ none_where bad (suc n) ks (and_right (is_free k) _ free) h

simple : (meanings : Meanings) (doc : Doc) (n : ℕ) (k : Kind) → is_limiter k ≡ false → not (is_simple_limiter meanings doc n k) ≡ false
simple meanings doc n (K.Buffer capacity) h = refl
simple meanings doc n (K.Queue capacity) h = refl
simple meanings doc n K.Priority h = refl
simple meanings doc n K.Sequencer h = refl
simple meanings doc n K.Overwrite h = refl
simple meanings doc n K.WriteOnce h = refl
simple meanings doc n (K.Function reject limit body arg) h = refl
simple meanings doc n (K.Multi reject limit body arg outs) h = refl
simple meanings doc n (K.Async reject limit arg) h = refl
simple meanings doc n (K.Input body arg) h = refl
simple meanings doc n (K.Limiter threshold by_value) h = cc
simple meanings doc n (K.QueueJoin ports) h = refl
simple meanings doc n (K.KeyJoin ports) h = refl
simple meanings doc n (K.HoldJoin ports) h = refl
simple meanings doc n (K.Continue body arg) h = refl
simple meanings doc n K.Broadcast h = refl
simple meanings doc n (K.Split outs) h = refl

module _ (doc : Doc) (free : HasNoLimiter doc.shape) where
  no_decrement : (n port : ℕ) → is_decrement doc.shape n port ≡ false
  no_decrement n port = ap (λ b. b && nat_eq port 1) (nowhere doc.shape.nodes n free)

  keeps : (s : Step) → not (decrements doc.shape s) ≡ true
  keeps (T.Put n port tag val) = ap not (no_decrement n port)
  keeps (T.Act n) = refl
  keeps T.Wait = refl
  keeps T.Cancel = refl

  shape_same : bare_shape doc.shape ≡ doc.shape
  shape_same =
      ap (λ (ks : List Kind). record { nodes = ks; edges = filter (λ (e : Edge). not (is_decrement doc.shape e.to e.port)) doc.shape.edges }) (kinds_same doc.shape.nodes free)
      ∙ ap (λ (es : List Edge). record { nodes = doc.shape.nodes; edges = es }) (all_pass (λ (e : Edge). not (is_decrement doc.shape e.to e.port)) doc.shape.edges (λ e. ap not (no_decrement e.to e.port)))

  pub bare_same : bare doc ≡ doc
  bare_same =
      ap (λ (s : Shape). record doc { shape = s; scripts = map (filter (λ t. not (decrements doc.shape t))) doc.scripts }) shape_same
      ∙ ap (λ (ss : List (List Step)). record doc { shape = doc.shape; scripts = ss }) (scripts_same (λ t. not (decrements doc.shape t)) doc.scripts keeps)

  module _ (meanings : Meanings) where
    abbrev chain : List ℕ → List ℕ → List ℕ → Result ⊤ (WildRule × ℕ)
    chain xs ys zs = do
      _ ← holds L1 xs
      _ ← holds L2 ys
      _ ← holds L3 zs
      meets_main_rule (determinate meanings (bare doc))

    no_bad : nodes_where (λ n k. not (is_simple_limiter meanings doc n k)) 0 doc.shape.nodes ≡ []
    no_bad = none_where (λ n k. not (is_simple_limiter meanings doc n k)) 0 doc.shape.nodes free (simple meanings doc)

    no_decremented : nodes_where (is_decremented meanings doc) 0 doc.shape.nodes ≡ []
    no_decremented = none_where (is_decremented meanings doc) 0 doc.shape.nodes free (λ m k h. ap (λ b. b && list_any (list_any (is_decremented_by meanings doc m)) doc.scripts) h)

    no_strange : nodes_where (has_strange_region meanings doc) 0 doc.shape.nodes ≡ []
    no_strange = none_where (has_strange_region meanings doc) 0 doc.shape.nodes free (λ m k h. ap (λ b. b && list_any (λ i. at_node doc.shape i (may_change_count meanings doc i)) (region meanings doc m)) h)

    pub tamed_as_determinate : tamed meanings doc ≡ meets_main_rule (determinate meanings doc)
    tamed_as_determinate =
        ap (λ xs. chain xs (nodes_where (is_decremented meanings doc) 0 doc.shape.nodes) (nodes_where (has_strange_region meanings doc) 0 doc.shape.nodes)) no_bad
        ∙ ap (λ ys. chain [] ys (nodes_where (has_strange_region meanings doc) 0 doc.shape.nodes)) no_decremented
        ∙ ap (λ zs. chain [] [] zs) no_strange
        ∙ ap (λ (d : Doc). meets_main_rule (determinate meanings d)) bare_same
