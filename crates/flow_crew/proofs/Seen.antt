-- What follows from what a chair of the run has seen.
use Rattle.std.proofs.Common.{◌≡◌, ℕ, ◌+◌, ◌<◌, ◌≤◌, Bool, true, false, cond, not, ◌&&◌, Option, Some, None, List, [], ◌∷◌, ◌++◌, length, refl, sym, ap, ◌∙◌, subst, arith, inl, inr}
use Rattle.std.proofs.lemmas.Bool.{ltb-true}
use Rattle.std.proofs.lemmas.List.Folds.{list_all-append}
use Rattle.std.proofs.lemmas.List.Sums.{sum_by-append}
use Rattle.std.proofs.lemmas.Option.{slice_get_within}
use Rattle.std.specs.Prelude.{⊤, slice_get, take, Result, Ok, Err, OnOk, IfErr}
use Rattle.std.specs.Result.{is_ok}
use Rattle.std.specs.List.{list_all, count_by}
use mathlib.Core.List.{IsPrefix}
use Rattle.flow_item.specs.declared.item.Msg.{Msg}
use Rattle.flow_item.specs.declared.event.Event.{Event}
use Rattle.flow_item.specs.declared.event.Event.TheVariants as E
use Rattle.flow_item.specs.declared.event.Stop.{Stop}
use Rattle.flow_item.specs.declared.event.Parties.{Parties}
use Rattle.flow_item.specs.declared.event.Party.TheVariants.{Node}
use Rattle.flow_item.specs.Events.{parties_of, births_of}
use Rattle.flow_item.specs.Legal.{projection}
use Rattle.flow_item.proofs.Journals.{is_legal-start}
use Rattle.flow_item.proofs.Tests.{and_left, and_right}
use Rattle.flow_shape.specs.declared.Kind.{Kind}
use Rattle.flow_shape.specs.declared.Kind.TheVariants as K
use Rattle.flow_shape.specs.declared.Shape.{Shape}
use Rattle.flow_shape.specs.Kinds.{is_input}
use Rattle.flow_shape.specs.Wiring.{is_some_and, at_node}
use Rattle.flow_shape.proofs.Sorting.{all-at}
use Rattle.flow_machine.specs.Bodies.{Meanings, body_kept}
use Rattle.flow_machine.specs.Scripts.{sent_by}
use Rattle.flow_machine.specs.Machine.{allows, is_leave, is_legal, is_of_run, is_run, is_within, second_within, open_after}
use Rattle.flow_progress.proofs.Leaving.{callers-leave-once}
use Rattle.flow_line.specs.Journal as line
use Rattle.flow_line.specs.Values.{Sitting, IsPair}
use Rattle.flow_line.specs.declared.view.About.{About}
use Rattle.flow_line.proofs.Beginnings.{prefix_trans}
use Rattle.flow_node.specs.Built.{is_built}
use Rattle.flow_book.specs.declared.machine.Run.{Run}
use Rattle.flow_book.specs.Runs.{run_allows}
use Rattle.flow_book.specs.Answers.{about_of, IsHalted, IsSame, IsShown}
use Rattle.flow_book.specs.Callers.{number_of}
use Rattle.flow_book.specs.declared.job.Job.{Job}
use Rattle.flow_book.specs.declared.job.Unfinished.{Unfinished}
use Rattle.flow_book.specs.Jobs.{IsJob, Ends, end_outs}
use Rattle.flow_book.specs.Jobs as jobs
use Rattle.flow_book.specs.declared.serve.Did.{Did}
use Rattle.flow_book.specs.declared.serve.Did.TheVariants as D
use Rattle.flow_book.specs.Serving.{AreNodes, IsServed}
use Rattle.flow_book.specs.Unrest.{most}
use Rattle.flow_book.proofs.Whole.{legal-run}
use Rattle.flow_crew.specs.Crew.{HasBegun, IsEnded, IsGiven, IsWaited, IsWork, IsWorker, HasWorked, is_started}
use Rattle.flow_crew.specs.Bodies.{answers_job}
use Rattle.flow_crew.proofs.Keeps.{is_function, built-function, answers-kind, end-keeps}
use Rattle.flow_crew.proofs.Works.{worked-kept, worked-done, halted-kept, worker-same, worker-started, worker-ended, worker-halted, runs-started, begun-started}
use Rattle.flow_crew.specs.declared.waited.Waited.{Waited}
use Rattle.flow_crew.specs.declared.waited.Waited.TheVariants as W

-- it is a journal of the run
pub seen-run : (run : Run) (items events : ℕ) (d : Sitting Event Run) → d.about ≡ about_of run items events → line.is_legal parties_of births_of run_allows d.about d.seen ≡ true
    → is_run run.shape run.callers run.workers d.seen ≡ true
seen-run run items events d about l =
    legal-run (record { setup = run; items = items; events = events }) d.seen (ap (λ o. line.is_legal parties_of births_of run_allows o d.seen) (sym about) ∙ l)

all-before : (test : Event → Bool) (log rest : List Event) (e : Event) → list_all test ((log ++ e ∷ []) ++ rest) ≡ true → test e ≡ true
all-before test log rest e h =
    let both : (list_all test (log ++ e ∷ []) && list_all test rest) ≡ true = sym (list_all-append test (log ++ e ∷ []) rest) ∙ h in
    let here : (list_all test log && list_all test (e ∷ [])) ≡ true = sym (list_all-append test log (e ∷ [])) ∙ and_left (list_all test (log ++ e ∷ [])) (list_all test rest) both in
    all-at test (e ∷ []) 0 e (and_right (list_all test log) (list_all test (e ∷ [])) here) refl

-- the nodes of an event that was shown are nodes of the run
pub second-within_run : (run : Run) (items events : ℕ) (c d : Sitting Event Run) (e : Event) (first second : ℕ) → IsShown c e d → d.about ≡ about_of run items events
    → line.is_legal parties_of births_of run_allows d.about d.seen ≡ true → AreNodes e first (Some second) → second < length run.shape.nodes
second-within_run run items events c d e first second sh about l are =
    let whole = seen-run run items events d about l in
    let of_run : Event → Bool = is_of_run run.shape run.callers run.workers in
    let all : list_all of_run d.seen ≡ true = and_right (is_legal run.shape d.seen) (list_all of_run d.seen) whole in
    let one : of_run e ≡ true = all-before of_run sh.log sh.seen.0 e (ap (list_all of_run) sh.seen.1 ∙ all) in
    by_order are one
  where
    by_order : IsPair (parties_of e) (Node first) (Node second) → is_of_run run.shape run.callers run.workers e ≡ true → second < length run.shape.nodes
    by_order (inl is) h =
        let told : second_within (length run.shape.nodes) run.callers run.workers (parties_of e).second ≡ true = and_right (is_within (length run.shape.nodes) run.callers run.workers (parties_of e).first) _ h in
        ltb-true second (length run.shape.nodes) (ap (λ (ps : Parties). second_within (length run.shape.nodes) run.callers run.workers ps.second) (sym is) ∙ told)
    by_order (inr is) h =
        let told : is_within (length run.shape.nodes) run.callers run.workers (parties_of e).first ≡ true = and_left _ (second_within (length run.shape.nodes) run.callers run.workers (parties_of e).second) h in
        ltb-true second (length run.shape.nodes) (ap (λ (ps : Parties). is_within (length run.shape.nodes) run.callers run.workers ps.first) (sym is) ∙ told)

count-more : (test : Event → Bool) (xs ys : List Event) → count_by test xs ≤ count_by test (xs ++ ys)
count-more test xs ys = let sum : count_by test (xs ++ ys) ≡ count_by test xs + count_by test ys = sum_by-append (λ x. cond (test x) 1 0) xs ys in omega (arith, sum)

-- who left before has left
pub all-left : (run : Run) (items events : ℕ) (c d : Sitting Event Run) → IsPrefix c.seen d.seen → d.about ≡ about_of run items events → line.is_legal parties_of births_of run_allows d.about d.seen ≡ true
    → count_by is_leave c.seen ≡ run.callers → count_by is_leave d.seen ≡ run.callers
all-left run items events c d p about l is =
    let once : count_by is_leave d.seen ≤ run.callers = callers-leave-once run.shape run.callers run.workers d.seen (seen-run run items events d about l) in
    let more : count_by is_leave c.seen ≤ count_by is_leave d.seen = subst (λ (es : List Event). count_by is_leave c.seen ≤ count_by is_leave es) p.1 (count-more is_leave c.seen p.0) in
    omega (arith, once, more, is)

pub none-open : (n : ℕ) → most n ≡ 0 → n ≡ 0
none-open n h = omega (arith, h)

-- a node of which something is told is there
pub node-within : (shape : Shape) (n : ℕ) (test : Kind → Bool) → at_node shape n test ≡ true → n < length shape.nodes
node-within shape n test h = by_kind (slice_get shape.nodes n) refl h
  where
    by_kind : (o : Option Kind) → slice_get shape.nodes n ≡ o → is_some_and test o ≡ true → n < length shape.nodes
    by_kind None at h = cc
    by_kind (Some k) at h = slice_get_within shape.nodes n k at

-- ---- how work and waits end

-- what ended after some work ended after all of it
pub ended-later : (run : Run) (a c d : Sitting Event Run) (w : Waited) → HasWorked a c → IsEnded run c w d → IsEnded run a w d
ended-later run a c d W.Quiet h e = (let le = h.looks in let more = e.0 in omega (arith, le, more), e.1, e.2)
ended-later run a c d (W.Halted stop) h e = e

-- first all callers had left, and then nothing was open
pub quiet-ended : (run : Run) (items events : ℕ) (c a d : Sitting Event Run) (left : ℕ) → IsSame c a → IsSame a d → a.looks < d.looks → c.about ≡ about_of run items events
    → line.is_legal parties_of births_of run_allows d.about d.seen ≡ true → left ≡ count_by is_leave a.seen → left ≡ run.callers → most (open_after run.shape d.seen) ≡ 0 → IsEnded run c W.Quiet d
quiet-ended run items events c a d left ca ad looks about l counted all none = (
  (let le = ca.0.looks in omega (arith, le, looks)),
  all-left run items events a d ad.0.seen (ad.0.about ∙ (ca.0.about ∙ about)) l (sym counted ∙ all),
  none-open (open_after run.shape d.seen) none,
)

-- what was waited for after the chair had seen more
pub waited-later : (run : Run) (a c d : Sitting Event Run) (w : Waited) → IsSame a c → IsWaited run c w d → IsWaited run a w d
waited-later run a c d W.Quiet s h = (let le = s.0.looks in let more = h.0 in omega (arith, le, more), h.1)
waited-later run a c d (W.Halted stop) s h = h

-- ---- what was done at a node

-- it names nodes of the run, and a job that the worker runs
pub served-given : (run : Run) (items events : ℕ) (n : ℕ) (c d : Sitting Event Run) (did : Did) → IsServed n c did d → c.about ≡ about_of run items events → n < length run.shape.nodes
    → line.is_legal parties_of births_of run_allows d.about d.seen ≡ true → IsGiven run d did
served-given run items events n c d (D.Event first None) s about below l = (let same = s.2 in omega (arith, same, below), tt)
served-given run items events n c d (D.Event first (Some second)) s about below l =
    (let same = s.2 in omega (arith, same, below), second-within_run run items events c d s.0 first second s.3 (s.3.rest.0.about ∙ about) l s.1)
served-given run items events n c d (D.Start job) s about below l = (runs-started run items events n c d job s about, let same = s.1 in omega (arith, same, below), begun-started n c d job s)
served-given run items events n c d D.Rest s about below l = tt

pub served-worker : (m : Meanings) (run : Run) (items events : ℕ) (n : ℕ) (c d : Sitting Event Run) (did : Did) → IsServed n c did d → d.own ≡ projection parties_of d.party d.seen
    → IsWorker m run items events c false → IsWorker m run items events d (is_started did)
served-worker m run items events n c d (D.Event first second) s own w = worker-same m run items events c d false w s.3.rest
served-worker m run items events n c d (D.Start job) s own w = worker-started m run items events c d false n job.item.id.no w s.0 own
served-worker m run items events n c d D.Rest s own w = worker-same m run items events c d false w s.0

pub served-worked : (n : ℕ) (c d : Sitting Event Run) (did : Did) → IsServed n c did d → HasWorked c d
served-worked n c d (D.Event first second) s = worked-kept c d s.3.rest.0
served-worked n c d (D.Start job) s = worked-done c d _ s.0
served-worked n c d D.Rest s = worked-kept c d s.0.0

-- ---- how a body ends

-- at a node that isn't an input all messages go
end-outs : (shape : Shape) (n : ℕ) (k : Kind) (outs : List Msg) → slice_get shape.nodes n ≡ Some k → is_function k ≡ true → end_outs shape n outs ≡ outs
end-outs shape n (K.Function reject limit body arg) outs at h = ap (λ (o : Option Kind). cond (is_some_and is_input o) (take 1 outs) outs) at
end-outs shape n k outs at h = cc

-- the end of a job that has begun has the messages of its body's meaning, at each later place
pub ended-kept : (m : Meanings) (run : Run) (items events : ℕ) (c : Sitting Event Run) (job : Job) (outs : List Msg) (w number : ℕ) (es : List Event) → c.about ≡ about_of run items events → HasBegun c job
    → list_all is_built run.shape.nodes ≡ true → is_legal run.shape es ≡ true → IsPrefix c.seen es → answers_job m job.body job.item outs ≡ true
    → body_kept m run.shape es (E.End w job.node job.item.id.no number (end_outs run.shape job.node outs)) ≡ true
ended-kept m run items events c job outs w number es about begun built legal later ans =
    let is : IsJob (about_of run items events) begun.0 job = subst (λ (o : Option (About Run)). IsJob o begun.0 job) about begun.2 in
    let f : is_function is.0 ≡ true = built-function is.0 job.body is.2 (all-at is_built run.shape.nodes job.node is.0 built is.1) in
    let start : IsPrefix begun.0 es = prefix_trans begun.0 c.seen es begun.1 later in
    let before : is_legal run.shape begun.0 ≡ true = is_legal-start parties_of (allows run.shape) begun.0 start.0 (ap (is_legal run.shape) start.1 ∙ legal) in
    let kept = end-keeps run.shape job.node is.0 m begun.0 start.0 job.item outs w number f before is.1 is.3 (answers-kind m is.0 job.body job.item outs is.2 ans) in
    (λ x. body_kept m run.shape (sym start.1 x) (E.End w job.node job.item.id.no number (end-outs run.shape job.node is.0 outs is.1 f x))) ∙ kept

seen-legal : (run : Run) (items events : ℕ) (d : Sitting Event Run) → d.about ≡ about_of run items events → line.is_legal parties_of births_of run_allows d.about d.seen ≡ true → is_legal run.shape d.seen ≡ true
seen-legal run items events d about l = and_left (is_legal run.shape d.seen) (list_all (is_of_run run.shape run.callers run.workers) d.seen) (seen-run run items events d about l)

-- the worker that ended its job runs nothing
pub finished-worker : (m : Meanings) (run : Run) (items events : ℕ) (c d : Sitting Event Run) (job : Job) (outs : List Msg) → IsWorker m run items events c true → HasBegun c job
    → list_all is_built run.shape.nodes ≡ true → answers_job m job.body job.item outs ≡ true → line.is_legal parties_of births_of run_allows d.about d.seen ≡ true
    → d.own ≡ projection parties_of d.party d.seen → jobs.IsEnded run.shape c job outs d → IsWorker m run items events d false
finished-worker m run items events c d job outs w begun built ans l own e =
    let legal : is_legal run.shape d.seen ≡ true = seen-legal run items events d (e.1.about ∙ w.about) l in
    let log : is_legal run.shape e.1.log ≡ true = is_legal-start parties_of (allows run.shape) e.1.log _ (ap (is_legal run.shape) (sym e.1.seen) ∙ legal) in
    worker-ended m run items events c d true false job.node job.item.id.no e.0 (end_outs run.shape job.node outs) w e.1 own
    (ended-kept m run items events c job outs (number_of c.party) e.0 e.1.log w.about begun built log e.1.start ans)

-- one that was refused the end of its job is still busy
pub unfinished-worker : (m : Meanings) (run : Run) (items events : ℕ) (c d : Sitting Event Run) (job : Job) (outs : List Msg) (stop : Stop) → IsWorker m run items events c true → HasBegun c job
    → list_all is_built run.shape.nodes ≡ true → answers_job m job.body job.item outs ≡ true → line.is_legal parties_of births_of run_allows d.about d.seen ≡ true
    → IsHalted c (Ends run.shape c.party job outs) d stop → IsWorker m run items events d true
unfinished-worker m run items events c d job outs stop w begun built ans l h =
    let k = halted-kept c d (Ends run.shape c.party job outs) stop h in
    let legal : is_legal run.shape d.seen ≡ true = seen-legal run items events d (k.about ∙ w.about) l in
    worker-halted m run items events c d true (Ends run.shape c.party job outs) stop (λ e is. of-end e is legal k.seen) w h
  where
    of-end : (e : Event) → Ends run.shape c.party job outs e → is_legal run.shape d.seen ≡ true → IsPrefix c.seen d.seen → IsWork m run d.seen e
    of-end e is legal later =
        (ap (body_kept m run.shape d.seen) is.1 ∙ ended-kept m run items events c job outs (number_of c.party) is.0 d.seen w.about begun built legal later ans, ap sent_by is.1)

module _ (run : Run) (c d : Sitting Event Run) (job : Job) (outs : List Msg) where
  -- what the end of a job leaves, whether it could be made or not
  pub finish-worker : (m : Meanings) (items events : ℕ) (r : Result ⊤ Unfinished) (b : Bool) → b ≡ is_ok r → IsWorker m run items events c true → HasBegun c job
      → list_all is_built run.shape.nodes ≡ true → answers_job m job.body job.item outs ≡ true → line.is_legal parties_of births_of run_allows d.about d.seen ≡ true
      → d.own ≡ projection parties_of d.party d.seen → OnOk r (jobs.IsEnded run.shape c job outs d) → IfErr r (λ u. IsHalted c (Ends run.shape c.party job outs) d u.stop)
      → IsWorker m run items events d (not b)
  finish-worker m items events r b is w begun built ans l own ended stopped = subst (λ (b : Bool). IsWorker m run items events d (not b)) (sym is) (by_result r ended stopped)
    where
      by_result : (r : Result ⊤ Unfinished) → OnOk r (jobs.IsEnded run.shape c job outs d) → IfErr r (λ u. IsHalted c (Ends run.shape c.party job outs) d u.stop) → IsWorker m run items events d (not (is_ok r))
      by_result (Ok x) e h = finished-worker m run items events c d job outs w begun built ans l own e
      by_result (Err u) e h = unfinished-worker m run items events c d job outs u.stop w begun built ans l h

  pub finish-worked : (r : Result ⊤ Unfinished) → OnOk r (jobs.IsEnded run.shape c job outs d) → IfErr r (λ u. IsHalted c (Ends run.shape c.party job outs) d u.stop) → HasWorked c d
  finish-worked (Ok x) e h = worked-done c d _ e.1
  finish-worked (Err u) e h = worked-kept c d (halted-kept c d (Ends run.shape c.party job outs) u.stop h)
