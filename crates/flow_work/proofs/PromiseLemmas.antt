-- What a run promises, from what its journal is.
use Rattle.std.proofs.Common.{◌≡◌, ℕ, ◌<◌, Bool, true, ◌&&◌, nat_le, nat_eq, is_none, OnOk, Result, Ok, Err, Option, Some, None, List, [], ◌∷◌, ◌++◌, length, refl, sym, subst, arith}
use Rattle.std.proofs.lemmas.Bool.Decides.{nat_tests}
use Rattle.std.specs.Prelude.{⊤}
use Rattle.std.specs.List.{list_all}
use Rattle.flow_item.specs.declared.event.Event.{Event}
use Rattle.flow_item.specs.declared.event.Stop.{Stop}
use Rattle.flow_item.proofs.Tests.{and_left, and_right, both_true}
use Rattle.flow_shape.specs.declared.Shape.{Shape}
use Rattle.flow_shape.specs.declared.Step.{Step}
use Rattle.flow_shape.specs.declared.Step.TheVariants as T
use Rattle.flow_shape.specs.Rules.{IsValid, first_fault}
use Rattle.flow_machine.specs.Machine.{is_legal}
use Rattle.flow_machine.specs.Scripts.{script}
use Rattle.flow_laws.proofs.EdgeStates.{modes-agree}
use Rattle.flow_laws.proofs.HoldsMatch.{holds-match}
use Rattle.flow_laws.proofs.HoldsTwoForms.{holds-twice}
use Rattle.flow_laws.proofs.Limits.{limits-kept}
use Rattle.flow_laws.proofs.LedgerLaw.{adds-up}
use Rattle.flow_laws.proofs.Births.{births-come}
use Rattle.flow_doc.specs.declared.Doc.{Doc}
use Rattle.flow_doc.specs.Fits.{doc_fits, kind_fits, step_fits}
use Rattle.flow_node.specs.Built.{is_built}
use Rattle.flow_work.specs.declared.plain.Ending.TheVariants as N
use Rattle.flow_work.specs.declared.run.Refusal.TheVariants as R
use Rattle.flow_machine.specs.Bodies.{Meanings}
use Rattle.flow_machine.specs.Settled.{IsSettled}
pub use Rattle.flow_fates.proofs.Facts.{one-fate-each, lineages-each, holds-reserve, parents-were-born}
use Rattle.flow_fates.proofs.Facts.{closed-holds-nothing}
use Rattle.flow_laws.specs.Moments.{AtEachStart, EdgesAgree, HoldsAgree, NodesWithinLimits, LedgerAddsUp}
use Rattle.flow_fates.specs.Facts.{NothingIsHeld}
use Rattle.flow_work.specs.Promises.{IsRefusedNext, KeepsBodies}
use Rattle.flow_node.specs.Readied.{Readied}
use Rattle.flow_work.specs.Plain.{run_of, AreNodesAfter, Leaves}
use Rattle.flow_work.specs.Tasks.{HasBodies, KeepsScripts, KeepsWaits}
use Rattle.flow_work.specs.Refusals.{IsRefused}
use Rattle.flow_work.specs.Runs.{Run, is_good_step, IsRunnable, IsJournal}
use Rattle.flow_work.proofs.EndLemmas.{none-behind}
use Rattle.flow_work.proofs.LimitLemmas.{within-at-start}
use Rattle.flow_work.proofs.RunLemmas.{scheduled-snoc, bodies-snoc}

-- ---- at each prefix

module _ (shape : Shape) (es : List Event) (valid : IsValid shape) (legal : is_legal shape es ≡ true) where
  start-legal : (before later : List Event) → es ≡ before ++ later → is_legal shape (before ++ later) ≡ true
  start-legal before later is = subst (λ es. is_legal shape es ≡ true) is legal

  pub edges-agree : AtEachStart (EdgesAgree shape) es
  edges-agree before later is = modes-agree shape before later valid (start-legal before later is)

  pub holds-agree : AtEachStart (HoldsAgree shape) es
  holds-agree before later is = (holds-twice shape before valid).0 (holds-match shape before later valid (start-legal before later is))

  pub nodes-within : AtEachStart (NodesWithinLimits shape) es
  nodes-within before later is = limits-kept shape before later (start-legal before later is)

  pub ledger-adds-up : AtEachStart (LedgerAddsUp shape) es
  ledger-adds-up before later is = record {
    each = adds-up shape before later valid (start-legal before later is);
    all = births-come shape before later valid (start-legal before later is);
  }

  pub nothing-is-held : IsSettled shape es → NothingIsHeld shape es
  nothing-is-held settled = closed-holds-nothing shape es valid legal settled.closed

-- ---- documents that can be run

good-step : (version : ℕ) (shape : Shape) (s : Step) → version < 3 → step_fits version shape s ≡ true → is_good_step shape s ≡ true
good-step version shape (T.Put n port tag val) old h = and_left _ _ h
good-step version shape (T.Act n) old h = h
good-step version shape T.Wait old h = refl
good-step version shape T.Cancel old h = let never : ⊥ = grind (arith, nat_tests) in absurd never

all-by : {X : Type 0} (p q : X → Bool) → ((x : X) → p x ≡ true → q x ≡ true) → (xs : List X) → list_all p xs ≡ true → list_all q xs ≡ true
all-by p q f [] h = refl
all-by p q f (x ∷ xs) h = both_true (f x (and_left _ _ h)) (all-by p q f xs (and_right (p x) _ h))

valid-of : (shape : Shape) → is_none (first_fault shape) ≡ true → IsValid shape
valid-of shape h = by_fault (first_fault shape) refl h
  where
    by_fault : (o : Option _) → first_fault shape ≡ o → is_none o ≡ true → first_fault shape ≡ None
    by_fault None is h = is
    by_fault (Some fault) is h = cc

pub can-run : (bodies : ℕ) (doc : Doc) → doc_fits bodies doc ≡ true → list_all is_built doc.shape.nodes ≡ true → doc.version < 3 → IsRunnable doc.shape doc.scripts
can-run bodies doc fits built old =
    let shape_fits = is_none (first_fault doc.shape) in
    let names_fit = nat_eq (length doc.names) (length doc.shape.nodes) in
    let kinds_fit = list_all (kind_fits bodies) doc.shape.nodes in
    let callers_fit = nat_le (length doc.scripts) 64 in
    let steps_fit = list_all (list_all (step_fits doc.version doc.shape)) doc.scripts in
    let to_steps : (shape_fits && names_fit && kinds_fit && callers_fit && steps_fit) ≡ true = and_left _ _ fits in
    let to_callers : (shape_fits && names_fit && kinds_fit && callers_fit) ≡ true = and_left _ _ to_steps in
    let to_kinds : (shape_fits && names_fit && kinds_fit) ≡ true = and_left _ _ to_callers in
    let few : callers_fit ≡ true = and_right (shape_fits && names_fit && kinds_fit) _ to_callers in
    let steps : steps_fit ≡ true = and_right (shape_fits && names_fit && kinds_fit && callers_fit) _ to_steps in
    record {
      valid = valid-of doc.shape (and_left _ _ (and_left _ _ to_kinds));
      built = built;
      steps = all-by (list_all (step_fits doc.version doc.shape)) (list_all (is_good_step doc.shape)) (all-by (step_fits doc.version doc.shape) (is_good_step doc.shape) (λ s h. good-step doc.version doc.shape s old h)) doc.scripts steps;
      few = grind (arith, nat_tests);
    }

-- a shelf that can run the document has the bodies of its nodes
pub has-bodies : (bodies : ℕ) (doc : Doc) → doc_fits bodies doc ≡ true → HasBodies bodies doc.shape
has-bodies bodies doc fits =
    let shape_fits = is_none (first_fault doc.shape) in
    let names_fit = nat_eq (length doc.names) (length doc.shape.nodes) in
    and_right (shape_fits && names_fit) _ (and_left _ _ (and_left _ _ (and_left _ _ fits)))

-- ---- refused events, and nothing at all

pub refused-next : (m : Meanings) (r : Run) (e : Event) → IsJournal r → IsRefused m r (R.Limit e) → IsRefusedNext r.shape r.callers r.items r.events r.journal e
refused-next m r e j h = record { refused = record { passes = h.0; follows = h.2 }; scheduled = scheduled-snoc r.shape r.callers r.journal e j.scheduled h.1 }

-- where no event was made
pub leaves-nothing : (m : Meanings) (shape : Shape) (callers : List (List Step)) (items events : ℕ) (es : List Event) (refused : Option Event) → IsRunnable shape callers → es ≡ [] → refused ≡ None → Leaves m (run_of shape callers items events es) refused N.Memory
leaves-nothing m shape callers items events es refused can empty none = subst (λ es. Leaves m (run_of shape callers items events es) refused N.Memory) (sym empty) (subst (λ o. Leaves m (run_of shape callers items events []) o N.Memory) (sym none) at_start)
  where
    at_start : Leaves m (run_of shape callers items events []) None N.Memory
    at_start = record {
      runnable = can;
      journal = record { run = refl; scheduled = refl; within = within-at-start items events; few = omega arith };
      scripts = λ c steps at. (script shape steps, refl);
      waits = λ c steps k at wait more. absurd (none-behind shape [] steps c k refl more);
      bodies = refl;
      done = _;
      event = _;
      event_bodies = _;
      limit = refl;
      nodes = _;
    }

-- where a limit refused an event
pub leaves-limit : (m : Meanings) (r s : Run) (e : Event) (nodes : List Readied) → r ≡ s → IsRunnable r.shape r.callers → IsJournal r → KeepsScripts r → KeepsWaits r → KeepsBodies m r.shape r.journal → IsRefused m r (R.Limit e) → AreNodesAfter r.shape r.journal nodes → Leaves m s (Some e) (N.Limit nodes)
leaves-limit m r s e nodes same can j scripts waits bodies refused after = subst (λ r. Leaves m r (Some e) (N.Limit nodes)) same record {
  runnable = can;
  journal = j;
  scripts = scripts;
  waits = waits;
  bodies = bodies;
  done = _;
  event = refused-next m r e j refused;
  event_bodies = bodies-snoc m r.shape r.journal e bodies refused.3;
  limit = refl;
  nodes = after;
}

-- what holds where a run ended well
pub on_ok : {X Y : Type 0} (r : Result ⊤ Stop) → (X → Y) → OnOk r X → OnOk r Y
on_ok (Ok x) f h = f h
on_ok (Err stop) f h = _
