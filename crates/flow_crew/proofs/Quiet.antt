-- Where all callers have left and nothing is open, no event comes any more.
use Rattle.std.proofs.Common.{◌≡◌, ℕ, ◌+◌, ◌<◌, Bool, true, false, cond, not, ◌&&◌, ◌||◌, eqb, ltb, Option, Some, None, List, [], ◌∷◌, ◌++◌, length, refl, sym, ap, ◌∙◌, arith, rules, append-nil, eq-eqb}
use Rattle.std.proofs.lemmas.Bool.{eqb-true, ltb-true, lt-ltb}
use Rattle.std.proofs.lemmas.List.Sums.{sum_by-append}
use Rattle.std.specs.Prelude.{slice_get, IsTrue}
use Rattle.std.specs.List.{list_all, list_any, count_by}
use Rattle.flow_item.specs.declared.event.Event.{Event}
use Rattle.flow_item.specs.declared.event.Event.TheVariants as E
use Rattle.flow_item.specs.declared.event.Party.{Party}
use Rattle.flow_item.specs.declared.event.Party.TheVariants.{Node, Caller, Worker}
use Rattle.flow_item.specs.Events.{parties_of, same_party}
use Rattle.flow_item.specs.Legal.{projection, takes_part}
use Rattle.flow_item.specs.Lists.{has}
use Rattle.flow_item.proofs.Tests.{and_left, and_right, both_true}
use Rattle.flow_item.proofs.Journals.{is_legal-snoc, may_follow-allows}
use Rattle.flow_shape.specs.declared.Kind.{Kind}
use Rattle.flow_shape.specs.declared.Shape.{Shape}
use Rattle.flow_shape.specs.Kinds.{is_async}
use Rattle.flow_shape.specs.Places.{place_at}
use Rattle.flow_shape.specs.Rules.{IsValid}
use Rattle.flow_machine.specs.State.{Part, body_part, input_part, continue_part, one_if}
use Rattle.flow_machine.specs.Enabled.{is_numbered, has_ticket, at_rest}
use Rattle.flow_machine.specs.OpenParts.{open_parts, open_bodies}
use Rattle.flow_machine.specs.Machine.{Task, task_of, runs, is_leave, allows, is_legal, is_of_run, is_run, may_follow, state_of, open_after}
use Rattle.flow_machine.specs.Settled.{is_move, IsSettled}
use Rattle.flow_laws.proofs.Names.{all-append}
use Rattle.flow_laws.proofs.Settled.{sum-zero, settles, node-kind}
use Rattle.flow_progress.specs.NeverStuck.{has_left, runs_item}
use Rattle.flow_progress.proofs.Callers.{callers-go-on}
use Rattle.flow_progress.proofs.Workers.{workers-end}
use Rattle.flow_progress.proofs.Leaving.{callers-leave-once}

any-some : {X : Type 0} (p : X → Bool) (xs : List X) → list_any p xs ≡ true → 0 < length xs
any-some p [] h = cc
any-some p (x ∷ xs) h = omega arith

has-some : (xs : List ℕ) (i : ℕ) → has xs i ≡ true → 0 < length xs
has-some [] i h = cc
has-some (x ∷ xs) i h = omega arith

one-true : (b : Bool) → b ≡ true → one_if b ≡ 1
one-true true h = refl
one-true false h = cc

runs-open : (p : Part) (i : ℕ) → runs_item p i ≡ true → 0 < open_bodies p
runs-open (body_part w) i h = let some = any-some (is_numbered i) w.running h in omega (arith, some)
runs-open (input_part f) i h = let some = one-true f.running (and_left f.running (eqb i f.turn) h) in omega (arith, some)
runs-open (continue_part c) i h = let some = has-some c.running i h in omega (arith, some)
runs-open p i h = cc

ticket-open : (p : Part) (i : ℕ) → has_ticket p i ≡ true → 0 < open_bodies p
ticket-open (body_part w) i h = let some = any-some (is_numbered i) w.tickets h in omega (arith, some)
ticket-open p i h = cc

true-false : (b : Bool) → b ≡ true → b ≡ false → ⊥
true-false true p q = cc
true-false false p q = cc

task-is : (t : Task) (n i : ℕ) → runs t n i ≡ true → (let u : Task = Some (n, i) in t ≡ u)
task-is None n i h = cc
task-is (Some t) n i h =
    let first : t.0 ≡ n = eqb-true t.0 n (and_left (eqb t.0 n) (eqb t.1 i) h) in
    let second : t.1 ≡ i = eqb-true t.1 i (and_right (eqb t.0 n) (eqb t.1 i) h) in
    λ x. Some (first x, second x)

second-takes : (p q : Party) (r : Bool) → same_party p p ≡ true → (r || same_party p p) ≡ true
second-takes p q true h = refl
second-takes p q false h = h

module _ (shape : Shape) (callers workers : ℕ) (es : List Event) where
  pub stays : is_run shape callers workers es ≡ true → count_by is_leave es ≡ callers → (c : ℕ) → c < callers → has_left es c ≡ false → ⊥
  stays run all c within h =
      let legal = and_left (is_legal shape es) (list_all (is_of_run shape callers workers) es) run in
      let own = and_right (is_legal shape es) (list_all (is_of_run shape callers workers) es) run in
      let leave = (callers-go-on shape es [] (ap (is_legal shape) (append-nil es) ∙ legal) c h).0 in
      let longer : is_legal shape (es ++ E.Leave c ∷ []) ≡ true = is_legal-snoc parties_of (allows shape) es (E.Leave c) ∙ both_true legal leave in
      let of : is_of_run shape callers workers (E.Leave c) ≡ true = both_true (lt-ltb c callers within) refl in
      let owned : list_all (is_of_run shape callers workers) (es ++ E.Leave c ∷ []) ≡ true = all-append (is_of_run shape callers workers) es (E.Leave c ∷ []) own (both_true of refl) in
      let once = callers-leave-once shape callers workers (es ++ E.Leave c ∷ []) (both_true longer owned) in
      let sum : count_by is_leave (es ++ E.Leave c ∷ []) ≡ count_by is_leave es + 1 = sum_by-append (λ x. cond (is_leave x) 1 0) es (E.Leave c ∷ []) in
      omega (arith, once, sum, all)

  gone : is_run shape callers workers es ≡ true → count_by is_leave es ≡ callers → (e : Event) (c : ℕ) → may_follow shape es e ≡ true → takes_part (parties_of e) (Caller c) ≡ true
      → allows shape (Caller c) (projection parties_of (Caller c) es) e ≡ not (has_left es c) → c < callers → ⊥
  gone run all e c h takes is within =
      let may : not (has_left es c) ≡ true = sym is ∙ may_follow-allows parties_of (allows shape) es e (Caller c) h takes in
      by_left (has_left es c) refl may
    where
      by_left : (b : Bool) → has_left es c ≡ b → not b ≡ true → ⊥
      by_left true at m = cc
      by_left false at m = stays run all c within at

  closed-node : open_after shape es ≡ 0 → (n : ℕ) (k : Kind) → slice_get shape.nodes n ≡ Some k → open_parts (state_of shape n k es) ≡ 0
  closed-node closed n k at = sum-zero (λ n k. open_parts (state_of shape n k es)) 0 shape.nodes n n k closed (omega arith) at

  caller-takes : (n c : ℕ) → takes_part (record { first = Node n; second = Some (Caller c) }) (Caller c) ≡ true
  caller-takes n c = second-takes (Caller c) (Caller c) (same_party (Node n) (Caller c)) (eq-eqb c c refl)

  worker-takes : (n w : ℕ) → takes_part (record { first = Node n; second = Some (Worker w) }) (Worker w) ≡ true
  worker-takes n w = second-takes (Worker w) (Worker w) (same_party (Node n) (Worker w)) (eq-eqb w w refl)

  node-takes : (n : ℕ) (p : Option Party) → takes_part (record { first = Node n; second = p }) (Node n) ≡ true
  node-takes n p = ap (λ b. b || Rattle.flow_item.specs.Legal.is_second p (Node n)) (eq-eqb n n refl)

  at-node : (e : Event) (n : ℕ) → may_follow shape es e ≡ true → takes_part (parties_of e) (Node n) ≡ true
      → (k : Kind) × (slice_get shape.nodes n ≡ Some k) × (Rattle.flow_machine.specs.Enabled.allows_at (place_at shape n k) (state_of shape n k es) e ≡ true)
  at-node e n h takes = node-kind shape n (slice_get shape.nodes n) (projection parties_of (Node n) es) e (may_follow-allows parties_of (allows shape) es e (Node n) h takes)

  -- no event of the run may follow
  pub nothing-follows : IsValid shape → is_run shape callers workers es ≡ true → count_by is_leave es ≡ callers → open_after shape es ≡ 0
      → (e : Event) → may_follow shape es e ≡ true → is_of_run shape callers workers e ≡ true → ⊥
  nothing-follows valid run all closed e h of = by_event e h of
    where
      legal : is_legal shape es ≡ true
      legal = and_left (is_legal shape es) (list_all (is_of_run shape callers workers) es) run

      settled : IsSettled shape es
      settled = settles shape es valid legal closed

      moves : (e : Event) → may_follow shape es e ≡ true → IsTrue (is_move e) → ⊥
      moves e h m = true-false (may_follow shape es e) h (settled.still e m)

      by_event : (e : Event) → may_follow shape es e ≡ true → is_of_run shape callers workers e ≡ true → ⊥
      by_event (E.Put c n port tag val answer) h of =
          gone run all (E.Put c n port tag val answer) c h (caller-takes n c) refl (ltb-true c callers (and_right (ltb n (length shape.nodes)) (ltb c callers) of))
      by_event (E.Act c n) h of = gone run all (E.Act c n) c h (caller-takes n c) refl (ltb-true c callers (and_right (ltb n (length shape.nodes)) (ltb c callers) of))
      by_event (E.Cancel c n dropped) h of = gone run all (E.Cancel c n dropped) c h (caller-takes n c) refl (ltb-true c callers (and_right (ltb n (length shape.nodes)) (ltb c callers) of))
      by_event (E.Leave c) h of = gone run all (E.Leave c) c h (ap (λ b. b || false) (eq-eqb c c refl)) refl (ltb-true c callers (and_left (ltb c callers) true of))
      by_event (E.End w n i number outs) h of =
          let may : runs (task_of (projection parties_of (Worker w) es)) n i ≡ true = may_follow-allows parties_of (allows shape) es (E.End w n i number outs) (Worker w) h (worker-takes n w) in
          let end = workers-end shape es [] valid (ap (is_legal shape) (append-nil es) ∙ legal) w n i (task-is (task_of (projection parties_of (Worker w) es)) n i may) in
          let some = runs-open (state_of shape n end.0 es).part i end.2 in
          let none = closed-node closed n end.0 end.1 in
          omega (arith, some, none)
      by_event (E.Back w n i number outs) h of =
          let at = at-node (E.Back w n i number outs) n h (node-takes n (Some (Worker w))) in
          let ticket : has_ticket (state_of shape n at.0 es).part i ≡ true = and_right (is_async at.0 && eqb number (state_of shape n at.0 es).made) (has_ticket (state_of shape n at.0 es).part i) at.2 in
          let some = ticket-open (state_of shape n at.0 es).part i ticket in
          let none = closed-node closed n at.0 at.1 in
          omega (arith, some, none)
      by_event (E.Idle n) h of =
          let at = at-node (E.Idle n) n h (node-takes n None) in
          let due : (state_of shape n at.0 es).due ≡ true = and_left (state_of shape n at.0 es).due (at_rest (place_at shape n at.0) (state_of shape n at.0 es)) at.2 in
          let some = one-true (state_of shape n at.0 es).due due in
          let none = closed-node closed n at.0 at.1 in
          omega (arith, some, none)
      by_event e h of = moves e h refl
