-- The bodies of a journal are those that its workers ran.
use Rattle.std.proofs.Common.{◌≡◌, ℕ, ◌<◌, Bool, true, false, ◌||◌, ltb, List, [], ◌∷◌, ◌++◌, length, refl, sym, ap, subst, append_assoc, eq-eqb}
use Rattle.std.proofs.lemmas.Bool.{ltb-true}
use Rattle.std.proofs.lemmas.List.{append-nil}
use Rattle.std.specs.List.{list_all}
use Rattle.flow_item.specs.declared.event.Event.{Event}
use Rattle.flow_item.specs.declared.event.Event.TheVariants as E
use Rattle.flow_item.specs.declared.event.Party.{Party}
use Rattle.flow_item.specs.declared.event.Party.TheVariants.{Node, Worker}
use Rattle.flow_item.specs.Events.{parties_of, same_party}
use Rattle.flow_item.specs.Legal.{takes_part}
use Rattle.flow_item.proofs.Tests.{and_left, and_right, both_true}
use Rattle.flow_shape.specs.declared.Shape.{Shape}
use Rattle.flow_machine.specs.Machine.{is_legal, is_of_run, is_run}
use Rattle.flow_machine.specs.Bodies.{Meanings, body_kept, kept_from, bodies_kept}
use Rattle.flow_crew.specs.Bodies.{KeepsOf}

pub all-there : {X : Type 0} (test : X → Bool) (before later : List X) (x : X) → list_all test (before ++ x ∷ later) ≡ true → test x ≡ true
all-there test [] later x h = and_left (test x) (list_all test later) h
all-there test (b ∷ bs) later x h = all-there test bs later x (and_right (test b) (list_all test (bs ++ x ∷ later)) h)

second-takes : (p q : Party) (r : Bool) → same_party p p ≡ true → (r || same_party p p) ≡ true
second-takes p q true h = refl
second-takes p q false h = h

worker-takes : (n w : ℕ) → (same_party (Node n) (Worker w) || same_party (Worker w) (Worker w)) ≡ true
worker-takes n w = second-takes (Worker w) (Node n) (same_party (Node n) (Worker w)) (eq-eqb w w refl)

module _ (m : Meanings) (shape : Shape) where
  -- what holds of each event holds of the journal
  kept-each : (before es : List Event) → ((b l : List Event) (e : Event) → es ≡ b ++ e ∷ l → body_kept m shape (before ++ b) e ≡ true) → kept_from m shape before es ≡ true
  kept-each before [] each = refl
  kept-each before (e ∷ es) each =
      let here : body_kept m shape before e ≡ true = subst (λ (c : List Event). body_kept m shape c e ≡ true) (append-nil before) (each [] es e refl) in
      both_true here
      (kept-each (before ++ e ∷ []) es
      (λ b l f is. subst (λ (c : List Event). body_kept m shape c f ≡ true) (sym (append_assoc before (e ∷ []) b)) (each (e ∷ b) l f (ap (λ zs. e ∷ zs) is))))

  -- only workers bring messages
  by-worker : (callers workers : ℕ) (es : List Event) (e : Event) → is_of_run shape callers workers e ≡ true
      → ((w : ℕ) → w < workers → takes_part (parties_of e) (Worker w) ≡ true → body_kept m shape es e ≡ true) → body_kept m shape es e ≡ true
  by-worker callers workers es (E.End w n i number outs) of h = h w (ltb-true w workers (and_right (ltb n (length shape.nodes)) (ltb w workers) of)) (worker-takes n w)
  by-worker callers workers es (E.Back w n i number outs) of h = h w (ltb-true w workers (and_right (ltb n (length shape.nodes)) (ltb w workers) of)) (worker-takes n w)
  by-worker callers workers es e of h = refl

  -- where each worker keeps its bodies, all are kept
  pub bodies-of-workers : (callers workers : ℕ) (es : List Event) → is_run shape callers workers es ≡ true → ((w : ℕ) → w < workers → KeepsOf m shape (Worker w) es) → bodies_kept m shape es ≡ true
  bodies-of-workers callers workers es run each =
      let of_run = and_right (is_legal shape es) (list_all (is_of_run shape callers workers) es) run in
      kept-each [] es
      (λ b l e is. by-worker callers workers b e (all-there (is_of_run shape callers workers) b l e (subst (λ (es : List Event). list_all (is_of_run shape callers workers) es ≡ true) is of_run))
      (λ w below takes. each w below b l e is takes))

  -- what is kept along a journal is kept along each beginning
  pub bodies-start : (before xs ys : List Event) → kept_from m shape before (xs ++ ys) ≡ true → kept_from m shape before xs ≡ true
  bodies-start before [] ys h = refl
  bodies-start before (x ∷ xs) ys h =
      both_true (and_left (body_kept m shape before x) (kept_from m shape (before ++ x ∷ []) (xs ++ ys)) h)
      (bodies-start (before ++ x ∷ []) xs ys (and_right (body_kept m shape before x) (kept_from m shape (before ++ x ∷ []) (xs ++ ys)) h))
