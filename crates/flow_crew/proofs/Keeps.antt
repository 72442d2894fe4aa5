-- Who runs a body on the item with which it began keeps the body's meaning.
use Rattle.std.proofs.Common.{◌≡◌, ℕ, Bool, true, false, cond, Option, Some, None, List, ◌++◌, refl, sym, ap, ◌∙◌, subst, eq-eqb}
use Rattle.std.specs.Prelude.{slice_get, if◌then◌else◌}
use Rattle.std.specs.List.{list_all}
use Rattle.flow_item.specs.declared.item.Item.{Item}
use Rattle.flow_item.specs.declared.item.Msg.{Msg}
use Rattle.flow_item.specs.declared.event.Event.{Event}
use Rattle.flow_item.specs.declared.event.Event.TheVariants as E
use Rattle.flow_item.specs.declared.event.Party.TheVariants.{Node}
use Rattle.flow_item.specs.Events.{parties_of}
use Rattle.flow_item.specs.Legal.{projection, replay}
use Rattle.flow_item.specs.Lists.{first}
use Rattle.flow_item.specs.Values.{same_msgs}
use Rattle.flow_item.proofs.Journals.{projection-append, replay-append}
use Rattle.flow_shape.specs.declared.Kind.{Kind}
use Rattle.flow_shape.specs.declared.Kind.TheVariants as K
use Rattle.flow_shape.specs.declared.Shape.{Shape}
use Rattle.flow_shape.specs.Places.{place_at}
use Rattle.flow_machine.specs.State.{BodyState, Part, body_part, NodeState, start}
use Rattle.flow_machine.specs.After.{after}
use Rattle.flow_machine.specs.Machine.{is_legal, state_of, node_after}
use Rattle.flow_machine.specs.Bodies.{Meanings, running_item, end_kept, body_kept}
use Rattle.flow_machine.proofs.Frames.{Fits}
use Rattle.flow_laws.proofs.Births.{fits-along}
use Rattle.flow_progress.proofs.Once.{Once, once}
use Rattle.flow_node.specs.Built.{is_built}
use Rattle.flow_book.specs.Jobs.{body_of, next_item}
use Rattle.flow_book.specs.declared.job.JobBody.{JobBody}
use Rattle.flow_crew.specs.Bodies.{answers_job}
use Rattle.flow_crew.proofs.Stays.{Fit, fit-first, fit-replayed, fit-running}

-- whether bodies of the kind run on items that came
abbrev pub is_function : Kind → Bool
is_function (K.Function reject limit body arg) = true
is_function k = false

-- of the kinds for which there is code only functions have bodies
pub built-function : (k : Kind) (b : JobBody) → body_of k ≡ Some b → is_built k ≡ true → is_function k ≡ true
built-function (K.Function reject limit body arg) b h built = refl
built-function (K.Multi reject limit body arg outs) b h built = cc
built-function (K.Input body arg) b h built = cc
built-function (K.Continue body arg) b h built = cc
built-function (K.Async reject limit arg) b h built = cc
built-function k b h built = cc

-- whether the messages are those of the kind's body for the item, where it is pure
abbrev pub answers_for : Meanings → Kind → Item → List Msg → Bool
answers_for m (K.Function reject limit body arg) x outs = if m.is_pure body then same_msgs outs (m.out body arg x.tag x.val) else true
answers_for m k x outs = true

pub answers-kind : (m : Meanings) (k : Kind) (b : JobBody) (x : Item) (outs : List Msg) → body_of k ≡ Some b → answers_job m b x outs ≡ true → answers_for m k x outs ≡ true
answers-kind m (K.Function reject limit body arg) b x outs is h = ap (λ (o : Option JobBody). of_job o) is ∙ h
  where
    of_job : Option JobBody → Bool
    of_job None = true
    of_job (Some b) = answers_job m b x outs
answers-kind m k b x outs is h = refl

is-body : (k : Kind) (p : Part) → is_function k ≡ true → Fits k p → (w : BodyState) × (p ≡ body_part w)
is-body (K.Function reject limit body arg) (body_part w) h f = (w, refl)
is-body (K.Function reject limit body arg) p h f = cc
is-body k p h f = cc

running-fit : (q : Item → Bool) (p : Part) (i : ℕ) → Fit q i p → list_all q (running_item p i) ≡ true
running-fit q (body_part w) i h = fit-running q i w.running h.2
running-fit q p i h = refl

part-keeps : (m : Meanings) (k : Kind) (p : Part) (x : Item) (outs : List Msg) → is_function k ≡ true → answers_for m k x outs ≡ true → ((q : Item → Bool) → q x ≡ true → Fit q x.id.no p)
    → end_kept m k p x.id.no outs ≡ true
part-keeps m (K.Function reject limit body arg) p x outs f ans fit = by_pure (m.is_pure body) ans
  where
    by_pure : (b : Bool) → cond b (same_msgs outs (m.out body arg x.tag x.val)) true ≡ true → cond b (list_all (λ (i : Item). same_msgs outs (m.out body arg i.tag i.val)) (running_item p x.id.no)) true ≡ true
    by_pure true a = running-fit (λ (i : Item). same_msgs outs (m.out body arg i.tag i.val)) p x.id.no (fit (λ (i : Item). same_msgs outs (m.out body arg i.tag i.val)) a)
    by_pure false a = refl
part-keeps m k p x outs f ans fit = cc

module _ (shape : Shape) (n : ℕ) (k : Kind) where
  joined : (log later : List Event) → state_of shape n k (log ++ later) ≡ replay (after (place_at shape n k)) (state_of shape n k log) (projection parties_of (Node n) later)
  joined log later =
      ap (node_after (place_at shape n k)) (projection-append parties_of (Node n) log later)
      ∙ replay-append (after (place_at shape n k)) (start (place_at shape n k)) (projection parties_of (Node n) log) (projection parties_of (Node n) later)

  later-fits : (log later : List Event) (x : Item) (q : Item → Bool) → q x ≡ true → is_function k ≡ true → is_legal shape log ≡ true → slice_get shape.nodes n ≡ Some k
      → next_item n (state_of shape n k log).part ≡ Some x → Fit q x.id.no (state_of shape n k (log ++ later)).part
  later-fits log later x q h f legal at next =
      let s = state_of shape n k log in
      let b = is-body k s.part f (fits-along shape n k at log legal) in
      let nx : first b.0.ready ≡ Some x = ap (next_item n) (sym b.1) ∙ next in
      let o : Once s.made (body_part b.0) = subst (λ (p : Part). Once s.made p) b.1 (once shape n k at log legal) in
      let one = fit-first q x.id.no s.made b.0 x nx (eq-eqb x.id.no x.id.no refl) o h in
      let here : Fit q x.id.no s.part = subst (λ (p : Part). Fit q x.id.no p) (sym b.1) one.0 in
      subst (λ (u : NodeState). Fit q x.id.no u.part) (sym (joined log later)) (fit-replayed q x.id.no (place_at shape n k) s (projection parties_of (Node n) later) one.1 here)

  -- the end of a body that began on the item has the messages of its meaning for that item
  pub end-keeps : (m : Meanings) (log later : List Event) (x : Item) (outs : List Msg) (w number : ℕ) → is_function k ≡ true → is_legal shape log ≡ true → slice_get shape.nodes n ≡ Some k
      → next_item n (state_of shape n k log).part ≡ Some x → answers_for m k x outs ≡ true → body_kept m shape (log ++ later) (E.End w n x.id.no number outs) ≡ true
  end-keeps m log later x outs w number f legal at next ans =
      let kept = part-keeps m k (state_of shape n k (log ++ later)).part x outs f ans (λ q h. later-fits log later x q h f legal at next) in
      rw at kept
