-- What a whole run of a determinate document keeps.
use Rattle.std.proofs.Common.{◌≡◌, ℕ, suc, ◌+◌, Bool, true, Some, List, [], ◌∷◌, length, refl, sym, ap, ◌∙◌, arith, eq-eqb}
use Rattle.std.specs.Prelude.{slice_get}
use Rattle.flow_item.specs.declared.event.Event.{Event}
use Rattle.flow_item.specs.Lists.{each_place}
use Rattle.flow_item.proofs.Tests.{both_true}
use Rattle.flow_progress.proofs.Same.{val-same}
use Rattle.flow_shape.specs.declared.Shape.{Shape}
use Rattle.flow_shape.specs.declared.Step.{Step}
use Rattle.flow_shape.specs.Rules.{IsValid}
use Rattle.flow_machine.specs.Bodies.{Meanings, bodies_kept}
use Rattle.flow_machine.specs.Machine.{is_run}
use Rattle.flow_machine.specs.Scripts.{Sent, puts, acts, cancels, leaves, same_sent, sent_of, script, is_prefix_of, scripts_kept}
use Rattle.flow_machine.specs.Settled.{IsSettled}
use Rattle.flow_doc.specs.declared.Doc.{Doc}
use Rattle.flow_determinacy.specs.Laws.{follows, scripts_done}
use Rattle.flow_determinacy.specs.Singles.{SinglesAnswerOnce}
use Rattle.flow_determinacy.proofs.Results.{all-arrives}
use Rattle.flow_work.specs.Promises.{CompletesScripts}
use Rattle.flow_work.specs.Results.{KeepsMeaning}

-- ---- a whole script is a first part of itself

sent-same : (s : Sent) → same_sent s s ≡ true
sent-same (puts n p t v) = both_true (both_true (both_true (eq-eqb n n refl) (eq-eqb p p refl)) (eq-eqb t t refl)) (val-same v)
sent-same (acts n) = eq-eqb n n refl
sent-same (cancels n) = eq-eqb n n refl
sent-same leaves = refl

prefix-same : (xs : List Sent) → is_prefix_of xs xs ≡ true
prefix-same [] = refl
prefix-same (x ∷ xs) = both_true (sent-same x) (prefix-same xs)

each-from : {X : Type 0} (p : ℕ → X → Bool) (n : ℕ) (xs : List X) → ((i m : ℕ) (x : X) → m ≡ n + i → slice_get xs i ≡ Some x → p m x ≡ true) → each_place p n xs ≡ true
each-from p n [] h = refl
each-from p n (x ∷ xs) h = both_true (h 0 n x (omega arith) refl) (each-from p (suc n) xs (λ i m y e at. h (suc i) m y (omega (arith, e)) at))

module _ (shape : Shape) (scripts : List (List Step)) (es : List Event) (whole : CompletesScripts shape scripts es) where
  sent-whole : (i c : ℕ) (steps : List Step) → c ≡ 0 + i → slice_get scripts i ≡ Some steps → sent_of es c ≡ script shape steps
  sent-whole i c steps e at = let same : i ≡ c = omega (arith, e) in whole c steps (ap (λ n. slice_get scripts n) (sym same) ∙ at)

  pub kept_whole : scripts_kept shape scripts es ≡ true
  kept_whole = each-from (λ c steps. is_prefix_of (sent_of es c) (script shape steps)) 0 scripts (λ i c steps e at. ap (λ ss. is_prefix_of ss (script shape steps)) (sent-whole i c steps e at) ∙ prefix-same (script shape steps))

  pub done_whole : scripts_done shape scripts es ≡ true
  done_whole = each-from (λ c steps. is_prefix_of (script shape steps) (sent_of es c)) 0 scripts (λ i c steps e at. ap (λ ss. is_prefix_of (script shape steps) ss) (sent-whole i c steps e at) ∙ prefix-same (script shape steps))

-- the journal of a whole run is one of those that the laws speak of
pub follows-whole : (meanings : Meanings) (doc : Doc) (workers : ℕ) (es : List Event) → is_run doc.shape (length doc.scripts) workers es ≡ true → bodies_kept meanings doc.shape es ≡ true → CompletesScripts doc.shape doc.scripts es → follows meanings doc workers es ≡ true
follows-whole meanings doc workers es run kept whole = both_true (both_true run (kept_whole doc.shape doc.scripts es whole)) kept

pub keeps-meaning : (meanings : Meanings) (doc : Doc) (workers : ℕ) (es : List Event) → SinglesAnswerOnce meanings → IsValid doc.shape → is_run doc.shape (length doc.scripts) workers es ≡ true → bodies_kept meanings doc.shape es ≡ true → CompletesScripts doc.shape doc.scripts es → IsSettled doc.shape es → KeepsMeaning meanings doc es
keeps-meaning meanings doc workers es singles valid run kept whole settled determined n k at =
    let all = all-arrives meanings doc workers es singles valid determined (follows-whole meanings doc workers es run kept whole) (done_whole doc.shape doc.scripts es whole) settled n k at in
    record { arrived = λ port below. (all.0 port below).0; once = λ port below. (all.0 port below).1; kept = all.2 }
