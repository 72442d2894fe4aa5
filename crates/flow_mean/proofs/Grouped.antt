-- The rules in two groups, and what it tells that none of the first fails.
use Rattle.std.proofs.Common.{◌≡◌, ℕ, zero, suc, ◌+◌, ◌<◌, Bool, true, false, not, ◌&&◌, cond, Option, Some, None, List, [], ◌∷◌, length, refl, sym, ap, subst, ◌∙◌, arith}
use Rattle.std.specs.Prelude.{is_none, slice_get, Result, Ok, Err, ⊤}
use Rattle.std.specs.List.{list_all, list_any}
use Rattle.flow_item.proofs.Tests.{and_left, and_right}
use Rattle.flow_shape.specs.Rules.{IsValid, first_fault}
use Rattle.flow_doc.specs.Fits.{doc_fits, kind_fits}
use Rattle.flow_item.specs.Lists.{first, has}
use Rattle.flow_item.proofs.Places.{slice_get-below}
use Rattle.flow_shape.specs.declared.Kind.{Kind}
use Rattle.flow_shape.specs.Kinds.{is_single_push}
use Rattle.flow_machine.specs.Bodies.{Meanings}
use Rattle.flow_doc.specs.declared.Doc.{Doc}
use Rattle.flow_doc.specs.Fields.{◌>>=◌}
use Rattle.flow_mean.specs.declared.LooseRule.{LooseRule}
use Rattle.flow_mean.specs.declared.LooseRule.TheVariants.{N1, N2, N3, N4, N5, N6, N7, N8}
use Rattle.flow_mean.specs.declared.Loose.{Loose}
use Rattle.flow_mean.specs.declared.MeanFault.TheVariants as M
use Rattle.flow_mean.specs.Meaning.{is_sequencer}
use Rattle.flow_mean.specs.Determinate.{is_orderly, is_function, is_cancel, is_on_cycle, nodes_where, holds, has_several_out_edges, may_lose, has_loose_body, repeats_tag, determinate, IsDeterminate}
use Rattle.flow_mean.specs.Judging.{AreRepeats, Judges, loose_at, or_else, least, early, late}
use Rattle.flow_mean.specs.declared.flow.Flow.{Flow}
use Rattle.flow_mean.specs.Whole.{IsWhole}
use Rattle.flow_mean.proofs.Tidied.{none-where}

-- the answer that an optional fault is
abbrev pub answer_of : Option Loose → Result ⊤ Loose
answer_of None = Ok tt
answer_of (Some f) = Err f

holds-then : (r : LooseRule) (ns : List ℕ) (rest : Option Loose) → (holds r ns >>= (λ (x : ⊤). answer_of rest)) ≡ answer_of (or_else (loose_at r (first ns)) rest)
holds-then r [] rest = refl
holds-then r (n ∷ ns) rest = refl

holds-last : (r : LooseRule) (ns : List ℕ) → holds r ns ≡ answer_of (loose_at r (first ns))
holds-last r [] = refl
holds-last r (n ∷ ns) = refl

step : (r : LooseRule) (ns : List ℕ) (x : Result ⊤ Loose) (rest : Option Loose) → x ≡ answer_of rest → (holds r ns >>= (λ (y : ⊤). x)) ≡ answer_of (or_else (loose_at r (first ns)) rest)
step r ns x rest h = ap (λ z. holds r ns >>= (λ (y : ⊤). z)) h ∙ holds-then r ns rest

grouped : (a b c d e l : Option Loose) → or_else a (or_else b (or_else c (or_else d (or_else e l)))) ≡ or_else (or_else a (or_else b (or_else c (or_else d e)))) l
grouped (Some f) b c d e l = refl
grouped None (Some f) c d e l = refl
grouped None None (Some f) d e l = refl
grouped None None None (Some f) e l = refl
grouped None None None None e l = refl

module _ (meanings : Meanings) (doc : Doc) where
  pub determinate-groups : determinate meanings doc ≡ answer_of (or_else (early meanings doc) (late meanings doc))
  determinate-groups =
      step N1 (nodes_where (λ n k. not (is_orderly k)) 0 doc.shape.nodes) _ _
      (step N2 (nodes_where (λ n k. is_on_cycle doc.shape n) 0 doc.shape.nodes) _ _
      (step N3 (nodes_where (λ n k. is_single_push k && has_several_out_edges doc n) 0 doc.shape.nodes) _ _
      (step N4 (nodes_where (may_lose doc) 0 doc.shape.nodes) _ _
      (step N5 (nodes_where (has_loose_body meanings doc) 0 doc.shape.nodes) _ _
      (step N6 (nodes_where (repeats_tag meanings doc) 0 doc.shape.nodes) _ _
      (step N7 (nodes_where (λ n k. has doc.sinks n && not (is_sequencer k)) 0 doc.shape.nodes) _ _
      (holds-last N8 (nodes_where (λ n k. is_function k && list_any (list_any is_cancel) doc.scripts) 0 doc.shape.nodes))))))))
      ∙ ap answer_of (grouped
      (loose_at N1 (least doc (λ n k. not (is_orderly k))))
      (loose_at N2 (least doc (λ n k. is_on_cycle doc.shape n)))
      (loose_at N3 (least doc (λ n k. is_single_push k && has_several_out_edges doc n)))
      (loose_at N4 (least doc (may_lose doc)))
      (loose_at N5 (least doc (has_loose_body meanings doc)))
      (late meanings doc))

  pub judges-early : (f : Loose) → Some f ≡ early meanings doc → Judges (determinate meanings doc) (Err (M.Loose f))
  judges-early f h = determinate-groups ∙ ap (λ o. answer_of (or_else o (late meanings doc))) (sym h)

  pub judges-late : (o : Option Loose) → None ≡ early meanings doc → o ≡ late meanings doc → determinate meanings doc ≡ answer_of o
  judges-late o h q = determinate-groups ∙ ap (λ p. answer_of (or_else p (late meanings doc))) (sym h) ∙ ap answer_of (sym q)

  early-answer : (o : Option Loose) → answer_of (or_else o (late meanings doc)) ≡ Ok tt → o ≡ None
  early-answer None h = refl
  early-answer (Some f) h = cc

  pub determinate-tidy : IsDeterminate meanings doc → early meanings doc ≡ None
  determinate-tidy d = early-answer (early meanings doc) (sym determinate-groups ∙ d)

  left-none : (a b : Option Loose) → or_else a b ≡ None → (a ≡ None) × (b ≡ None)
  left-none None b h = (refl, h)
  left-none (Some f) b h = cc

  none-least : (r : LooseRule) (ns : List ℕ) → loose_at r (first ns) ≡ None → ns ≡ []
  none-least r [] h = refl
  none-least r (n ∷ ns) h = cc

  -- no node is of a kind that no determinate document has, none is on a cycle, and no body is loose
  pub record Early : Type 0 where
    pub orderly : (n : ℕ) (k : Kind) → slice_get doc.shape.nodes n ≡ Some k → is_orderly k ≡ true
    pub acyclic : (n : ℕ) → n < length doc.shape.nodes → is_on_cycle doc.shape n ≡ false
    pub tied : (n : ℕ) (k : Kind) → slice_get doc.shape.nodes n ≡ Some k → has_loose_body meanings doc n k ≡ false

  not-false : (b : Bool) → not b ≡ false → b ≡ true
  not-false true h = refl
  not-false false h = cc

  pub early-none : early meanings doc ≡ None → Early
  early-none h =
      let a = left-none _ _ h in
      let b = left-none _ _ a.1 in
      let c = left-none _ _ b.1 in
      let d = left-none _ _ c.1 in
      record {
        orderly = λ n k at. not-false _ (none-where (λ n k. not (is_orderly k)) 0 n n doc.shape.nodes k (none-least N1 _ a.0) (omega arith) at);
        acyclic = λ n less. let there = slice_get-below doc.shape.nodes n less in none-where (λ n k. is_on_cycle doc.shape n) 0 n n doc.shape.nodes there.0 (none-least N2 _ b.0) (omega arith) there.1;
        tied = λ n k at. none-where (has_loose_body meanings doc) 0 n n doc.shape.nodes k (none-least N5 _ d.1) (omega arith) at;
      }

-- ---- a document that fits

none-is : {X : Type 0} (o : Option X) → is_none o ≡ true → o ≡ None
none-is None h = refl
none-is (Some x) h = cc

pub fits-valid : (n : ℕ) (doc : Doc) → doc_fits n doc ≡ true → IsValid doc.shape
fits-valid n doc h = none-is (first_fault doc.shape) (and_left _ _ (and_left _ _ (and_left _ _ (and_left _ _ (and_left _ _ h)))))

pub fits-kinds : (n : ℕ) (doc : Doc) → doc_fits n doc ≡ true → list_all (kind_fits n) doc.shape.nodes ≡ true
fits-kinds n doc h = and_right _ _ (and_left _ _ (and_left _ _ (and_left _ _ h)))

-- the answers to the rules that look at tags or callers, one after the other
pub late-from : (meanings : Meanings) (doc : Doc) (flow : Flow) (marks : List Bool) (o s t : Option ℕ) (x y z p q : Option Loose) → IsWhole meanings doc flow → marks ≡ flow.repeats.items
    → ((m : Meanings) → AreRepeats m doc marks → o ≡ least doc (repeats_tag m doc)) → x ≡ loose_at N6 o
    → s ≡ least doc (λ n k. has doc.sinks n && not (is_sequencer k)) → y ≡ loose_at N7 s
    → t ≡ least doc (λ n k. is_function k && list_any (list_any is_cancel) doc.scripts) → z ≡ loose_at N8 t
    → p ≡ or_else y z → q ≡ or_else x p → q ≡ late meanings doc
late-from meanings doc flow marks o s t x y z p q whole same repeat xo sink ys cancel zt pq qq =
    let first_repeat : o ≡ least doc (repeats_tag meanings doc) = repeat meanings (subst (AreRepeats meanings doc) (sym same) whole.tells) in
    let six : x ≡ loose_at N6 (least doc (repeats_tag meanings doc)) = xo ∙ ap (loose_at N6) first_repeat in
    let seven : y ≡ loose_at N7 (least doc (λ n k. has doc.sinks n && not (is_sequencer k))) = ys ∙ ap (loose_at N7) sink in
    let eight : z ≡ loose_at N8 (least doc (λ n k. is_function k && list_any (list_any is_cancel) doc.scripts)) = zt ∙ ap (loose_at N8) cancel in
    qq ∙ ap (λ (w : Option Loose). or_else x w) pq ∙ ap (λ (w : Option Loose). or_else w (or_else y z)) six
    ∙ ap (λ (w : Option Loose). or_else (loose_at N6 (least doc (repeats_tag meanings doc))) (or_else w z)) seven
    ∙ ap (λ (w : Option Loose). or_else (loose_at N6 (least doc (repeats_tag meanings doc))) (or_else (loose_at N7 (least doc (λ n k. has doc.sinks n && not (is_sequencer k)))) w)) eight
