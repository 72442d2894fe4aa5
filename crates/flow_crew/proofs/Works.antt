-- What calls of the book leave of those who work.
use Rattle.std.proofs.Common.{◌≡◌, ℕ, Bool, true, false, not, ◌&&◌, ◌||◌, Option, Some, None, List, [], ◌∷◌, ◌++◌, length, refl, sym, ap, ◌∙◌, subst, eq-eqb, arith}
use Rattle.std.specs.Prelude.{is_none}
use Rattle.std.specs.List.{list_any}
use mathlib.Core.List.{IsPrefix}
use Rattle.flow_item.specs.declared.event.Event.{Event}
use Rattle.flow_item.specs.declared.event.Event.TheVariants as E
use Rattle.flow_item.specs.declared.event.PutAnswer.{PutAnswer}
use Rattle.flow_item.specs.declared.event.Party.{Party}
use Rattle.flow_item.specs.declared.event.Party.TheVariants.{Node, Caller, Worker}
use Rattle.flow_item.specs.declared.event.Stop.{Stop}
use Rattle.flow_item.specs.declared.event.Stop.TheVariants.{Limit, Memory}
use Rattle.flow_item.specs.declared.item.Msg.{Msg}
use Rattle.flow_item.specs.declared.val.Val.{Val}
use Rattle.flow_item.specs.Events.{parties_of}
use Rattle.flow_item.specs.Legal.{projection, takes_part}
use Rattle.flow_item.proofs.Journals.{replay-append}
use Rattle.flow_item.proofs.Tests.{and_left, and_right, both_true}
use Rattle.flow_machine.specs.Machine.{Task, is_leave, task_of, task_after}
use Rattle.flow_machine.specs.Bodies.{Meanings, body_kept}
use Rattle.flow_line.specs.declared.view.About.{About}
use Rattle.flow_line.specs.Values.{Sitting}
use Rattle.flow_line.proofs.Beginnings.{prefix_self, prefix_trans, prefix_snoc}
use Rattle.flow_book.specs.declared.machine.Run.{Run}
use Rattle.flow_book.specs.declared.job.Job.{Job}
use Rattle.flow_book.specs.declared.serve.Did.TheVariants as D
use Rattle.flow_book.specs.Answers.{about_of, kept_first, IsKept, IsSame, IsDone, IsStopped, IsHalted, Was}
use Rattle.flow_book.specs.Callers.{number_of, is_caller_of, is_worker_about, is_idle_worker, may_call}
use Rattle.flow_book.specs.Jobs.{IsJob, RunsJob}
use Rattle.flow_book.specs.Serving.{IsServed}
use Rattle.flow_book.specs.Stopped.{PassesKept, KeepsRefused}
use Rattle.flow_crew.specs.Crew.{KeptSuch, KeepsSuch, IsAnswered, IsWork, IsCaller, IsWorker, HasBegun, HasWorked}
use Rattle.flow_crew.proofs.Owned.{own-kept, own-done}

-- ---- what a chair keeps

module _ (Such : List Event → Event → Type 0) where
  pub such-refused : (c : Sitting Event Run) → KeepsSuch Such c → KeepsRefused c
  such-refused c h = by_kept c.kept h
    where
      by_kept : (k : Option (Event × ℕ)) → KeptSuch Such c.about c.seen k → PassesKept c.about c.seen k
      by_kept None h = tt
      by_kept (Some kept) h = (h.0, h.1, h.2, h.3)

  such-on : (c d : Sitting Event Run) → d.about ≡ c.about → IsPrefix c.seen d.seen → d.kept ≡ c.kept → KeepsSuch Such c → KeepsSuch Such d
  such-on c d about p same h =
      let moved : KeptSuch Such c.about d.seen c.kept = later c.kept h in
      subst (λ (k : Option (Event × ℕ)). KeptSuch Such d.about d.seen k) (sym same) (subst (λ (o : Option (About Run)). KeptSuch Such o d.seen c.kept) (sym about) moved)
    where
      later : (k : Option (Event × ℕ)) → KeptSuch Such c.about c.seen k → KeptSuch Such c.about d.seen k
      later None h = tt
      later (Some kept) h = (h.0, prefix_trans h.0 c.seen d.seen h.1 p, h.2, h.3, h.4)

  such-same : (c d : Sitting Event Run) → IsSame c d → KeepsSuch Such c → KeepsSuch Such d
  such-same c d s h = such-on c d s.0.about s.0.seen s.1 h

  such-done : (c d : Sitting Event Run) (e : Event) → IsDone c e d → KeepsSuch Such c → KeepsSuch Such d
  such-done c d e m h = such-on c d m.about (prefix_snoc c.seen m.log d.seen e m.start m.seen) m.kept h

  such-stopped : (c d : Sitting Event Run) (e : Event) → IsStopped c e d → Such d.seen e → KeepsSuch Such c → KeepsSuch Such d
  such-stopped c d e st such h = by_kept c.kept refl
    where
      by_kept : (k : Option (Event × ℕ)) → c.kept ≡ k → KeepsSuch Such d
      by_kept None at =
          let now : d.kept ≡ Some (e, length d.seen) = st.kept ∙ ap (λ k. kept_first k e (length d.seen)) at in
          let told : KeptSuch Such d.about d.seen (Some (e, length d.seen)) = (d.seen, prefix_self d.seen, refl, st.limit, such) in
          subst (λ (k : Option (Event × ℕ)). KeptSuch Such d.about d.seen k) (sym now) told
      by_kept (Some kept) at = such-on c d st.rest.about st.rest.seen (st.kept ∙ (ap (λ k. kept_first k e (length d.seen)) at ∙ sym at)) h

  such-halted : (c d : Sitting Event Run) (Meant : Event → Type 0) (stop : Stop) → ((e : Event) → Meant e → Such d.seen e) → IsHalted c Meant d stop → KeepsSuch Such c → KeepsSuch Such d
  such-halted c d Meant Limit such h k = such-stopped c d h.0 h.2 (such h.0 h.1) k
  such-halted c d Meant Memory such h k = such-same c d h k

-- what a refused call leaves of its chair
pub halted-kept : (c d : Sitting Event Run) (Meant : Event → Type 0) (stop : Stop) → IsHalted c Meant d stop → IsKept c d
halted-kept c d Meant Limit h = h.2.rest
halted-kept c d Meant Memory h = h.0

-- ---- what a chair's party made

pub worked-none : (c : Sitting Event Run) → HasWorked c c
worked-none c = record { party = refl; own = prefix_self c.own; seen = prefix_self c.seen; looks = omega arith }

pub worked-on : (c d f : Sitting Event Run) → HasWorked c d → HasWorked d f → HasWorked c f
worked-on c d f h g = record {
  party = g.party ∙ h.party;
  own = prefix_trans c.own d.own f.own h.own g.own;
  seen = prefix_trans c.seen d.seen f.seen h.seen g.seen;
  looks = let le = h.looks in let le2 = g.looks in omega (arith, le, le2);
}

pub worked-kept : (c d : Sitting Event Run) → IsKept c d → HasWorked c d
worked-kept c d k = record {
  party = k.party;
  own = subst (λ (es : List Event). IsPrefix c.own es) (sym k.own) (prefix_self c.own);
  seen = k.seen;
  looks = k.looks;
}

pub worked-done : (c d : Sitting Event Run) (e : Event) → IsDone c e d → HasWorked c d
worked-done c d e m = record {
  party = m.party;
  own = prefix_snoc c.own c.own d.own e (prefix_self c.own) m.own;
  seen = prefix_snoc c.seen m.log d.seen e m.start m.seen;
  looks = m.looks;
}

-- ---- callers

pub caller-keeps : (m : Meanings) (run : Run) (items events : ℕ) (c : Sitting Event Run) → IsCaller m run items events c → KeepsRefused c
caller-keeps m run items events c w = such-refused (IsAnswered m run) c w.kept

caller-on : (m : Meanings) (run : Run) (items events : ℕ) (c d : Sitting Event Run) → IsCaller m run items events c → d.about ≡ c.about → d.party ≡ c.party → KeepsSuch (IsAnswered m run) d
    → IsCaller m run items events d
caller-on m run items events c d w about party k = record {
  about = about ∙ w.about;
  caller = ap (is_caller_of run.callers) party ∙ w.caller;
  kept = k;
}

pub caller-same : (m : Meanings) (run : Run) (items events : ℕ) (c d : Sitting Event Run) → IsCaller m run items events c → IsSame c d → IsCaller m run items events d
caller-same m run items events c d w s = caller-on m run items events c d w s.0.about s.0.party (such-same (IsAnswered m run) c d s w.kept)

pub caller-done : (m : Meanings) (run : Run) (items events : ℕ) (c d : Sitting Event Run) (e : Event) → IsCaller m run items events c → IsDone c e d → IsCaller m run items events d
caller-done m run items events c d e w done = caller-on m run items events c d w done.about done.party (such-done (IsAnswered m run) c d e done w.kept)

pub caller-halted : (m : Meanings) (run : Run) (items events : ℕ) (c d : Sitting Event Run) (Meant : Event → Type 0) (stop : Stop) → ((e : Event) → Meant e → IsAnswered m run d.seen e)
    → IsCaller m run items events c → IsHalted c Meant d stop → IsCaller m run items events d
caller-halted m run items events c d Meant stop such w h =
    let k = halted-kept c d Meant stop h in
    caller-on m run items events c d w k.about k.party (such-halted (IsAnswered m run) c d Meant stop such h w.kept)

-- a call that was to make an event which ends no body
pub caller-was : (m : Meanings) (run : Run) (items events : ℕ) (c d : Sitting Event Run) (e : Event) (stop : Stop) → ((es : List Event) → body_kept m run.shape es e ≡ true)
    → IsCaller m run items events c → IsHalted c (Was e) d stop → IsCaller m run items events d
caller-was m run items events c d e stop kept w h = caller-halted m run items events c d (Was e) stop (λ f is. ap (body_kept m run.shape d.seen) is ∙ kept d.seen) w h

pub caller-put : (m : Meanings) (run : Run) (items events : ℕ) (c d : Sitting Event Run) (k n port tag : ℕ) (val : Val) (stop : Stop)
    → IsCaller m run items events c → IsHalted c (λ e. (a : PutAnswer) × (e ≡ E.Put k n port tag val a)) d stop → IsCaller m run items events d
caller-put m run items events c d k n port tag val stop w h =
    caller-halted m run items events c d (λ e. (a : PutAnswer) × (e ≡ E.Put k n port tag val a)) stop (λ f is. ap (body_kept m run.shape d.seen) is.1) w h

none-more : (test : Event → Bool) (es : List Event) (e : Event) → list_any test es ≡ false → test e ≡ false → list_any test (es ++ e ∷ []) ≡ false
none-more test [] e h n = ap (λ b. b || false) n
none-more test (x ∷ xs) e h n = by_first (test x) h (none-more test xs e)
  where
    by_first : (b : Bool) → (b || list_any test xs) ≡ false → (list_any test xs ≡ false → test e ≡ false → list_any test (xs ++ e ∷ []) ≡ false) → (b || list_any test (xs ++ e ∷ [])) ≡ false
    by_first true h r = cc
    by_first false h r = r h n

not-false : (b : Bool) → not b ≡ true → b ≡ false
not-false true h = cc
not-false false h = refl

-- a caller that made an event, but didn't leave, may go on
pub calls-done : (run : Run) (c d : Sitting Event Run) (e : Event) → may_call run c ≡ true → IsDone c e d → is_leave e ≡ false → may_call run d ≡ true
calls-done run c d e h m n =
    let stays : list_any is_leave c.own ≡ false = not-false (list_any is_leave c.own) (and_right (is_caller_of run.callers c.party) (not (list_any is_leave c.own)) h) in
    let there : is_caller_of run.callers d.party ≡ true = ap (is_caller_of run.callers) m.party ∙ and_left (is_caller_of run.callers c.party) (not (list_any is_leave c.own)) h in
    let own : list_any is_leave d.own ≡ false = ap (list_any is_leave) m.own ∙ none-more is_leave c.own e stays n in
    both_true {a = is_caller_of run.callers d.party} there (ap not own)

-- and so may one that made none
pub calls-kept : (run : Run) (c d : Sitting Event Run) → may_call run c ≡ true → IsKept c d → may_call run d ≡ true
calls-kept run c d h k = (λ x. is_caller_of run.callers (k.party x) && not (list_any is_leave (k.own x))) ∙ h

-- ---- workers

worker-there : (c d : Sitting Event Run) → d.about ≡ c.about → d.party ≡ c.party → is_worker_about c.about c.party ≡ true → is_worker_about d.about d.party ≡ true
worker-there c d about party h = (λ x. is_worker_about (about x) (party x)) ∙ h

pub worker-keeps : (m : Meanings) (run : Run) (items events : ℕ) (c : Sitting Event Run) (busy : Bool) → IsWorker m run items events c busy → KeepsRefused c
worker-keeps m run items events c busy w = such-refused (IsWork m run) c w.kept

worker-kept : (m : Meanings) (run : Run) (items events : ℕ) (c d : Sitting Event Run) (busy : Bool) → IsWorker m run items events c busy → IsKept c d → KeepsSuch (IsWork m run) d
    → IsWorker m run items events d busy
worker-kept m run items events c d busy w k refused = record {
  about = k.about ∙ w.about;
  worker = worker-there c d k.about k.party w.worker;
  kept = refused;
  idle = λ b. ap (λ es. is_none (task_of es)) k.own ∙ w.idle b;
  bodies = own-kept m run.shape c d k w.bodies;
}

pub worker-same : (m : Meanings) (run : Run) (items events : ℕ) (c d : Sitting Event Run) (busy : Bool) → IsWorker m run items events c busy → IsSame c d → IsWorker m run items events d busy
worker-same m run items events c d busy w s = worker-kept m run items events c d busy w s.0 (such-same (IsWork m run) c d s w.kept)

pub worker-halted : (m : Meanings) (run : Run) (items events : ℕ) (c d : Sitting Event Run) (busy : Bool) (Meant : Event → Type 0) (stop : Stop)
    → ((e : Event) → Meant e → IsWork m run d.seen e) → IsWorker m run items events c busy → IsHalted c Meant d stop → IsWorker m run items events d busy
worker-halted m run items events c d busy Meant stop such w h =
    worker-kept m run items events c d busy w (halted-kept c d Meant stop h) (such-halted (IsWork m run) c d Meant stop such h w.kept)

true-false : true ≡ false → ⊥
true-false h = cc

worker-is : (about : Option (About Run)) (p : Party) → is_worker_about about p ≡ true → p ≡ Worker (number_of p)
worker-is None p h = cc
worker-is (Some about) (Worker w) h = refl
worker-is (Some about) (Node n) h = cc
worker-is (Some about) (Caller c) h = cc

-- the party of a worker's chair takes part in what is made in its name
pub worker-part : (m : Meanings) (run : Run) (items events : ℕ) (c : Sitting Event Run) (busy : Bool) (n : ℕ) → IsWorker m run items events c busy
    → takes_part (record { first = Node n; second = Some (Worker (number_of c.party)) }) c.party ≡ true
worker-part m run items events c busy n w =
    ap (takes_part (record { first = Node n; second = Some (Worker (number_of c.party)) })) (worker-is c.about c.party w.worker) ∙ eq-eqb (number_of c.party) (number_of c.party) refl

-- a worker that started something is busy
pub worker-started : (m : Meanings) (run : Run) (items events : ℕ) (c d : Sitting Event Run) (busy : Bool) (n i : ℕ) → IsWorker m run items events c busy → IsDone c (E.Start (number_of c.party) n i) d
    → d.own ≡ projection parties_of d.party d.seen → IsWorker m run items events d true
worker-started m run items events c d busy n i w done own = record {
  about = done.about ∙ w.about;
  worker = worker-there c d done.about done.party w.worker;
  kept = such-done (IsWork m run) c d (E.Start (number_of c.party) n i) done w.kept;
  idle = λ b. absurd (true-false b);
  bodies = own-done m run.shape c d (E.Start (number_of c.party) n i) done own (worker-part m run items events c busy n w) refl w.bodies;
}

task-after : (c d : Sitting Event Run) (e : Event) → IsDone c e d → task_of d.own ≡ task_after (task_of c.own) e
task-after c d e m = ap task_of m.own ∙ replay-append task_after None c.own (e ∷ [])

-- and one that ended it isn't
pub worker-ended : (m : Meanings) (run : Run) (items events : ℕ) (c d : Sitting Event Run) (busy now : Bool) (n i number : ℕ) (outs : List Msg) → IsWorker m run items events c busy
    → (done : IsDone c (E.End (number_of c.party) n i number outs) d) → d.own ≡ projection parties_of d.party d.seen → body_kept m run.shape done.log (E.End (number_of c.party) n i number outs) ≡ true
    → IsWorker m run items events d now
worker-ended m run items events c d busy now n i number outs w done own kept = record {
  about = done.about ∙ w.about;
  worker = worker-there c d done.about done.party w.worker;
  kept = such-done (IsWork m run) c d (E.End (number_of c.party) n i number outs) done w.kept;
  idle = λ b. ap (λ (t : Task). is_none t) (task-after c d (E.End (number_of c.party) n i number outs) done);
  bodies = own-done m run.shape c d (E.End (number_of c.party) n i number outs) done own (worker-part m run items events c busy n w) kept w.bodies;
}

-- the worker runs the job that it has started
pub runs-started : (run : Run) (items events : ℕ) (n : ℕ) (c d : Sitting Event Run) (job : Job) → IsServed n c (D.Start job) d → c.about ≡ about_of run items events → RunsJob run d job
runs-started run items events n c d job s about =
    let log = s.2.0 in
    let here : IsJob (about_of run items events) log job = subst (λ (o : Option (About Run)). IsJob o log job) (s.0.about ∙ about) s.2.2 in
    let task : task_of d.own ≡ Some (n, job.item.id.no) = task-after c d (E.Start _ n job.item.id.no) s.0 in
    let same : task_of d.own ≡ Some (job.node, job.item.id.no) = task ∙ ap (λ (m : ℕ). let t : Task = Some (m, job.item.id.no) in t) (sym s.1) in
    (same, (here.0, here.1, here.2))

pub idle-worker : (m : Meanings) (run : Run) (items events : ℕ) (c : Sitting Event Run) (busy : Bool) → IsWorker m run items events c busy → busy ≡ false → is_idle_worker c ≡ true
idle-worker m run items events c busy w h = both_true {a = is_worker_about c.about c.party} w.worker (w.idle h)

-- and the job has begun
pub begun-started : (n : ℕ) (c d : Sitting Event Run) (job : Job) → IsServed n c (D.Start job) d → HasBegun d job
begun-started n c d job s = (s.2.0, prefix_snoc s.2.0 s.2.0 d.seen _ (prefix_self s.2.0) s.2.1, s.2.2)
