-- What the answer of a run tells.
use Rattle.std.proofs.Common.{◌≡◌, ℕ, ◌^◌, ◌≤◌, Bool, true, false, OnOk, Result, Ok, Err, Option, None, List, [], refl, sym, subst, arith}
use Rattle.std.specs.Prelude.{⊤, is_ok}
use Rattle.flow_item.specs.declared.event.Event.{Event}
use Rattle.flow_item.specs.declared.event.Stop.{Stop}
use Rattle.flow_item.specs.Events.{births}
use Rattle.flow_shape.specs.declared.Shape.{Shape}
use Rattle.flow_shape.specs.declared.Step.{Step}
use Rattle.flow_machine.specs.Bodies.{Meanings}
use Rattle.flow_machine.specs.Scripts.{script}
use Rattle.flow_work.proofs.EndLemmas.{none-behind}
use Rattle.flow_work.proofs.LimitLemmas.{within-at-start}
use Rattle.flow_run.specs.Runs.{IsRunOf}

false-true : {X : Type 0} → false ≡ true → X
false-true h = absurd (let never : ⊥ = cc in never)

-- what is known where all is done is known where the answer says so
pub answered : (m : Meanings) (shape : Shape) (scripts : List (List Step)) (workers items events : ℕ) (es : List Event) (refused o : Option Event) (done : Bool) (r : Result ⊤ Stop) → OnOk r ((o ≡ None) × (done ≡ true))
    → IsRunOf m shape scripts workers items events es refused done → IsRunOf m shape scripts workers items events es refused (is_ok r)
answered m shape scripts workers items events es refused o done r h run = record {
  run = run.run;
  follows = run.follows;
  waits = run.waits;
  bodies = run.bodies;
  within = run.within;
  event = run.event;
  whole = λ t. run.whole (all_done r h t);
  closed = λ t. run.closed (all_done r h t);
}
  where
    all_done : (r : Result ⊤ Stop) → OnOk r ((o ≡ None) × (done ≡ true)) → is_ok r ≡ true → done ≡ true
    all_done (Ok x) h t = h.1
    all_done (Err stop) h t = false-true t

nothing-run : (m : Meanings) (shape : Shape) (scripts : List (List Step)) (workers items events : ℕ) → IsRunOf m shape scripts workers items events [] None false
nothing-run m shape scripts workers items events = record {
  run = refl;
  follows = λ c steps at. (script shape steps, refl);
  waits = λ c steps k at wait more. absurd (none-behind shape [] steps c k refl more);
  bodies = refl;
  within = within-at-start items events;
  event = _;
  whole = λ t. false-true t;
  closed = λ t. false-true t;
}

-- where nothing was run
pub not-run : (m : Meanings) (shape : Shape) (scripts : List (List Step)) (workers items events : ℕ) (es : List Event) (refused : Option Event) → es ≡ [] → refused ≡ None → IsRunOf m shape scripts workers items events es refused false
not-run m shape scripts workers items events es refused empty none =
    subst (λ (es : List Event). IsRunOf m shape scripts workers items events es refused false) (sym empty)
    (subst (λ (o : Option Event). IsRunOf m shape scripts workers items events [] o false) (sym none) (nothing-run m shape scripts workers items events))

pub few-at-start : (es : List Event) → es ≡ [] → births es ≤ 2 ^ 63
few-at-start es empty = subst (λ (es : List Event). births es ≤ 2 ^ 63) (sym empty) (let few : 0 ≤ 2 ^ 63 = omega arith in few)

-- what the answer says well
pub where_ok : {X : Type 0} (r : Result ⊤ Stop) → (is_ok r ≡ true → X) → OnOk r X
where_ok (Ok x) f = f refl
where_ok (Err stop) f = _
