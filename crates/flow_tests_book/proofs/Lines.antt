-- The chairs of a line of one caller and one queue, and what they allow at its start.
use Rattle.std.proofs.Common.{◌≡◌, ℕ, true, List, [], ◌∷◌, ◌++◌, map, refl, ap, ◌∙◌}
use Rattle.std.specs.Prelude.{pos}
use Rattle.flow_item.specs.Values.{lists_compute}
use Rattle.flow_item.specs.declared.event.Event.{Event}
use Rattle.flow_item.specs.declared.event.Event.TheVariants as E
use Rattle.flow_item.specs.declared.event.PutAnswer.TheVariants as A
use Rattle.flow_item.specs.declared.event.Land.TheVariants as L
use Rattle.flow_item.specs.declared.val.Val.TheVariants as V
use Rattle.flow_line.specs.Values.{Sitting, fresh, may_make}
use Rattle.flow_book.specs.declared.machine.Run.{Run}
use Rattle.flow_book.specs.Answers.{about_of}
use Rattle.flow_book.specs.Opening.{fresh_chairs}
use Rattle.flow_book.specs.Runs.{run_allows}
use Rattle.flow_book.proofs.Starts.{out-last}
use Rattle.flow_tests_book.specs.Lines.{IsSeat, queue_run, the_caller, the_queue}

-- the queue's chair comes out first
pub queue-out : (run : Run) (items events : ℕ) (old new : List (Sitting Event Run)) (c : Sitting Event Run) → run ≡ queue_run → old ≡ map (fresh (about_of run items events)) (the_caller ∷ the_queue ∷ []) → old ≡ new ++ c ∷ []
    → (new ≡ fresh_chairs queue_run items events (the_caller ∷ [])) × IsSeat the_queue items events c
queue-out run items events old new c same is out =
    out-last queue_run items events (the_caller ∷ []) (the_caller ∷ the_queue ∷ []) the_queue old new c refl (is ∙ ap (λ (r : Run). fresh_chairs r items events (the_caller ∷ the_queue ∷ [])) same) out

-- and then the caller's
pub caller-out : (items events : ℕ) (old new : List (Sitting Event Run)) (c : Sitting Event Run) → old ≡ fresh_chairs queue_run items events (the_caller ∷ []) → old ≡ new ++ c ∷ [] → IsSeat the_caller items events c
caller-out items events old new c is out = (out-last queue_run items events [] (the_caller ∷ []) the_caller old new c refl is out).1

-- the caller may leave
pub may-leave : (items events : ℕ) (c : Sitting Event Run) → IsSeat the_caller items events c → may_make run_allows c (E.Leave 0) ≡ true
may-leave items events c is = ap (λ (c : Sitting Event Run). may_make run_allows c (E.Leave 0)) is

abbrev pub the_put : Event
the_put = E.Put 0 0 0 0 (V.Int (pos 5)) (A.Accepted 0 L.Kept)

-- the caller may put, and the queue takes the value
pub may-put : (items events : ℕ) (c : Sitting Event Run) → IsSeat the_caller items events c → may_make run_allows c the_put ≡ true
unfolding lists_compute
may-put items events c is = ap (λ (c : Sitting Event Run). may_make run_allows c the_put) is

pub may-take : (items events : ℕ) (c : Sitting Event Run) → IsSeat the_queue items events c → may_make run_allows c the_put ≡ true
unfolding lists_compute
may-take items events c is = ap (λ (c : Sitting Event Run). may_make run_allows c the_put) is
