-- What the caller and the worker of a node may do after a call.
use Rattle.std.proofs.Common.{◌≡◌, ℕ, ◌<◌, length, Option, Some, None, true, false, ◌&&◌, List, [], ◌∷◌, ◌++◌, refl, sym, ap, ◌∙◌, subst, All, arith}
use Rattle.std.specs.Prelude.{is_none, nat_eq, IfSome}
use Rattle.std.specs.Option.{option_to_list}
use Rattle.std.specs.List.{list_all}
use Rattle.std.proofs.lemmas.Bool.{eqb-true}
use Rattle.std.proofs.lemmas.List.Elements.{All-nil, All-push, All-same, All-pop}
use Rattle.flow_item.specs.declared.event.Event.{Event}
use Rattle.flow_item.specs.declared.event.Event.TheVariants as E
use Rattle.flow_item.specs.declared.event.Stop.{Stop}
use Rattle.flow_item.specs.declared.event.Stop.TheVariants.{Limit, Memory}
use Rattle.flow_item.specs.declared.event.Party.TheVariants.{Caller, Worker}
use Rattle.flow_item.specs.declared.item.Msg.{Msg}
use Rattle.flow_item.proofs.Journals.{replay-append}
use Rattle.flow_item.proofs.Tests.{and_left, and_right, both_true}
use Rattle.flow_shape.specs.declared.Shape.{Shape}
use Rattle.flow_shape.specs.declared.Kind.{Kind}
use Rattle.flow_shape.specs.Rules.{IsValid, first_fault}
use Rattle.flow_node.specs.Built.{is_built}
use Rattle.flow_machine.specs.Machine.{Task, is_leave, task_of, task_after}
use Rattle.flow_line.specs.declared.view.About.{About}
use Rattle.flow_line.specs.Values.{Sitting, fresh}
use Rattle.flow_book.specs.declared.machine.Run.{Run}
use Rattle.flow_book.specs.declared.job.Job.{Job}
use Rattle.flow_book.specs.declared.serve.Did.{Did}
use Rattle.flow_book.specs.declared.serve.Did.TheVariants as D
use Rattle.flow_book.specs.declared.job.Took.{Took}
use Rattle.flow_book.specs.declared.job.Took.TheVariants as T
use Rattle.flow_body.specs.declared.ask.Ask.{Ask}
use Rattle.flow_book.specs.Answers.{about_of, IsKept, IsSame, IsDone, IsStopped, IsHalted}
use Rattle.flow_book.specs.Callers.{number_of, is_worker_about, takes_puts}
use Rattle.flow_book.specs.Jobs.{IsJob, IsEnded, IsBrought, end_outs}
use Rattle.flow_book.specs.Opening.{callers_of, workers_of, fresh_chairs}
use Rattle.flow_book.specs.Serving.{IsServed}
use Rattle.flow_book.proofs.Stored.{keeps-on, keeps-done, keeps-halted}
use Rattle.flow_tests_book.specs.Nodes.{one_node, is_one, IsOf, Calls, Works, RunsOn}
use Rattle.flow_row.proofs.Calls.{calls-on, calls-kept}

-- ---- the node

none-there : {X : Type 0} (o : Option X) → is_none o ≡ true → o ≡ None
none-there None h = refl
none-there (Some x) h = let never : ⊥ = cc in absurd never

first-half : (s : Shape) → is_one s ≡ true → (is_none (first_fault s) && list_all is_built s.nodes) ≡ true
first-half s h = and_left (is_none (first_fault s) && list_all is_built s.nodes) (nat_eq (length s.nodes) 1 && takes_puts s 0 0) h

last-half : (s : Shape) → is_one s ≡ true → (nat_eq (length s.nodes) 1 && takes_puts s 0 0) ≡ true
last-half s h = and_right (is_none (first_fault s) && list_all is_built s.nodes) (nat_eq (length s.nodes) 1 && takes_puts s 0 0) h

pub one-valid : (s : Shape) → is_one s ≡ true → IsValid s
one-valid s h = none-there (first_fault s) (and_left (is_none (first_fault s)) (list_all is_built s.nodes) (first-half s h))

pub one-built : (s : Shape) → is_one s ≡ true → list_all is_built s.nodes ≡ true
one-built s h = and_right (is_none (first_fault s)) (list_all is_built s.nodes) (first-half s h)

pub one-there : (s : Shape) → is_one s ≡ true → 0 < length s.nodes
one-there s h =
    let one : length s.nodes ≡ 1 = eqb-true (length s.nodes) 1 (and_left (nat_eq (length s.nodes) 1) (takes_puts s 0 0) (last-half s h)) in
    omega (arith, one)

pub one-puts : (s : Shape) → is_one s ≡ true → takes_puts s 0 0 ≡ true
one-puts s h = and_right (nat_eq (length s.nodes) 1) (takes_puts s 0 0) (last-half s h)

-- ---- the book, opened

abbrev pub is-run : Shape → Run
is-run s = record { shape = s; callers = 1; workers = 1 }

is-one_callers : (s : Shape) (items events : ℕ) → All (Calls (is-run s) items events) (fresh_chairs (is-run s) items events (callers_of (is-run s)))
is-one_callers s items events =
    All-push (Calls (is-run s) items events) [] (fresh (about_of (is-run s) items events) (Caller 0)) (All-nil (Calls (is-run s) items events)) (record { about = refl; calls = refl; kept = tt })

is-one_workers : (s : Shape) (items events : ℕ) → All (Works (is-run s) items events) (fresh_chairs (is-run s) items events (workers_of (is-run s)))
is-one_workers s items events =
    All-push (Works (is-run s) items events) [] (fresh (about_of (is-run s) items events) (Worker 0)) (All-nil (Works (is-run s) items events)) (record { about = refl; idle = refl })

pub callers-there : (run : Run) (s : Shape) (items events : ℕ) (cs : List (Sitting Event Run)) → run ≡ is-run s → cs ≡ fresh_chairs run items events (callers_of run)
    → All (Calls run items events) cs
callers-there run s items events cs same is =
    All-same (Calls run items events) cs (fresh_chairs run items events (callers_of run)) is
    (subst (λ (r : Run). All (Calls r items events) (fresh_chairs r items events (callers_of r))) (sym same) (is-one_callers s items events))

pub workers-there : (run : Run) (s : Shape) (items events : ℕ) (cs : List (Sitting Event Run)) → run ≡ is-run s → cs ≡ fresh_chairs run items events (workers_of run)
    → All (Works run items events) cs
workers-there run s items events cs same is =
    All-same (Works run items events) cs (fresh_chairs run items events (workers_of run)) is
    (subst (λ (r : Run). All (Works r items events) (fresh_chairs r items events (workers_of r))) (sym same) (is-one_workers s items events))

-- ---- after a call

pub calls-done : (run : Run) (items events : ℕ) (c d : Sitting Event Run) (e : Event) → Calls run items events c → IsDone c e d → is_leave e ≡ false → Calls run items events d
calls-done run items events c d e h m other = record {
  about = m.about ∙ h.about;
  calls = calls-on run c d e m h.calls other;
  kept = keeps-done c d e m h.kept;
}

halted-kept : (c d : Sitting Event Run) (Meant : Event → Type 0) (stop : Stop) → IsHalted c Meant d stop → IsKept c d
halted-kept c d Meant Limit h =
    let st : IsStopped c h.0 d = h.2 in
    st.rest
halted-kept c d Meant Memory h =
    let same : IsSame c d = h in
    same.0

pub of-halted : (run : Run) (items events : ℕ) (c d : Sitting Event Run) (Meant : Event → Type 0) (stop : Stop) → IsOf run items events c → IsHalted c Meant d stop → IsOf run items events d
of-halted run items events c d Meant stop h m = let k = halted-kept c d Meant stop m in k.about ∙ h

pub calls-halted : (run : Run) (items events : ℕ) (c d : Sitting Event Run) (Meant : Event → Type 0) (stop : Stop) → Calls run items events c → IsHalted c Meant d stop → Calls run items events d
calls-halted run items events c d Meant stop h m =
    let k = halted-kept c d Meant stop m in
    record { about = k.about ∙ h.about; calls = calls-kept run c d k h.calls; kept = keeps-halted c d Meant stop m h.kept }

pub calls-same : (run : Run) (items events : ℕ) (c d : Sitting Event Run) → Calls run items events c → IsSame c d → Calls run items events d
calls-same run items events c d h s = record {
  about = s.0.about ∙ h.about;
  calls = calls-kept run c d s.0 h.calls;
  kept = keeps-on c d s.0.about s.0.seen s.1 h.kept;
}

pub works-same : (run : Run) (items events : ℕ) (c d : Sitting Event Run) → Works run items events c → IsSame c d → Works run items events d
works-same run items events c d h s = record {
  about = s.0.about ∙ h.about;
  idle = (λ i. is_worker_about (s.0.about i) (s.0.party i) && is_none (task_of (s.0.own i))) ∙ h.idle;
}

-- ---- a job

task-after : (c d : Sitting Event Run) (e : Event) → IsDone c e d → task_of d.own ≡ task_after (task_of c.own) e
task-after c d e m = ap task_of m.own ∙ replay-append task_after None c.own (e ∷ [])

there-on : (c d : Sitting Event Run) (e : Event) → IsDone c e d → is_worker_about c.about c.party ≡ true → is_worker_about d.about d.party ≡ true
there-on c d e m h = (λ i. is_worker_about (m.about i) (m.party i)) ∙ h

pub runs-started : (run : Run) (items events n : ℕ) (c d : Sitting Event Run) (job : Job) → Works run items events c → IsServed n c (D.Start job) d → RunsOn run items events d job
runs-started run items events n c d job h s =
    let done : IsDone c (E.Start (number_of c.party) n job.item.id.no) d = s.0 in
    let about : d.about ≡ about_of run items events = done.about ∙ h.about in
    let here : IsJob (about_of run items events) s.2.0 job = subst (λ (o : Option (About Run)). IsJob o s.2.0 job) about s.2.2 in
    let task : task_of d.own ≡ Some (n, job.item.id.no) = task-after c d (E.Start (number_of c.party) n job.item.id.no) done in
    let same : task_of d.own ≡ Some (job.node, job.item.id.no) = task ∙ ap (λ (m : ℕ). let t : Task = Some (m, job.item.id.no) in t) (sym s.1) in
    record {
      about = about;
      worker = there-on c d (E.Start (number_of c.party) n job.item.id.no) done (and_left (is_worker_about c.about c.party) (is_none (task_of c.own)) h.idle);
      runs = (same, (here.0, here.1, here.2));
    }

pub works-ended : (run : Run) (items events : ℕ) (c d : Sitting Event Run) (job : Job) (outs : List Msg) → RunsOn run items events c job → IsEnded run.shape c job outs d → Works run items events d
works-ended run items events c d job outs h m =
    let e : Event = E.End (number_of c.party) job.node job.item.id.no m.0 (end_outs run.shape job.node outs) in
    let done : IsDone c e d = m.1 in
    let none : is_none (task_of d.own) ≡ true = ap (λ (t : Task). is_none t) (task-after c d e done) in
    record {
      about = done.about ∙ h.about;
      idle = both_true {a = is_worker_about d.about d.party} {b = is_none (task_of d.own)} (there-on c d e done h.worker) none;
    }

-- ---- what serving told

pub works-event : (run : Run) (items events n : ℕ) (c d : Sitting Event Run) (did : Did) (first : ℕ) (second : Option ℕ) → Works run items events c → IsServed n c did d → did ≡ D.Event first second
    → Works run items events d
works-event run items events n c d did first second h served is =
    let told : IsServed n c (D.Event first second) d = subst (λ (did : Did). IsServed n c did d) is served in
    works-same run items events c d h told.3.rest

pub works-rest : (run : Run) (items events n : ℕ) (c d : Sitting Event Run) (did : Did) → Works run items events c → IsServed n c did d → did ≡ D.Rest → Works run items events d
works-rest run items events n c d did h served is =
    let told : IsServed n c D.Rest d = subst (λ (did : Did). IsServed n c did d) is served in
    works-same run items events c d h told.0

pub runs-told : (run : Run) (items events n : ℕ) (c d : Sitting Event Run) (did : Did) (job : Job) → Works run items events c → IsServed n c did d → did ≡ D.Start job → RunsOn run items events d job
runs-told run items events n c d did job h served is = runs-started run items events n c d job h (subst (λ (did : Did). IsServed n c did d) is served)

pub works-strange : (run : Run) (items events : ℕ) (c d : Sitting Event Run) (ask : Ask) (outs : List Msg) (what : Took) → Works run items events c → IsBrought run.shape c ask outs what d → what ≡ T.Stranger
    → Works run items events d
works-strange run items events c d ask outs what h brought is =
    let told : IsBrought run.shape c ask outs T.Stranger d = subst (λ (what : Took). IsBrought run.shape c ask outs what d) is brought in
    works-same run items events c d h told.0

-- the graph that was opened is the one that was asked for
pub opened : (s : Shape) (kind : Kind) → s ≡ one_node kind → is_one (one_node kind) ≡ true → is_one s ≡ true
opened s kind is h = ap is_one is ∙ h

-- ---- seats

-- the caller that was taken out may call
pub one-caller : (run : Run) (s : Shape) (items events : ℕ) (old new : List (Sitting Event Run)) (r : Option (Sitting Event Run)) (c : Sitting Event Run) → run ≡ is-run s
    → old ≡ fresh_chairs run items events (callers_of run) → old ≡ new ++ option_to_list r → r ≡ Some c → Calls run items events c
one-caller run s items events old new r c same fresh pop is =
    let told : IfSome r (Calls run items events) = (All-pop (Calls run items events) old new r pop (callers-there run s items events old same fresh)).1 in
    subst (λ (o : Option (Sitting Event Run)). IfSome o (Calls run items events)) is told

pub one-worker : (run : Run) (s : Shape) (items events : ℕ) (old new : List (Sitting Event Run)) (r : Option (Sitting Event Run)) (w : Sitting Event Run) → run ≡ is-run s
    → old ≡ fresh_chairs run items events (workers_of run) → old ≡ new ++ option_to_list r → r ≡ Some w → Works run items events w
one-worker run s items events old new r w same fresh pop is =
    let told : IfSome r (Works run items events) = (All-pop (Works run items events) old new r pop (workers-there run s items events old same fresh)).1 in
    subst (λ (o : Option (Sitting Event Run)). IfSome o (Works run items events)) is told
