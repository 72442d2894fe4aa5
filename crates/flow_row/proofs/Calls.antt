-- What a chair of the row may do after a call.
use Rattle.std.proofs.Common.{◌≡◌, ℕ, ◌<◌, length, length-append, zero, suc, ◌≤◌, nat_lt, lt-ltb, map, arith, Option, Some, None, Bool, true, false, not, ◌&&◌, ◌||◌, List, [], ◌∷◌, ◌++◌, refl, sym, ap, ◌∙◌, subst, All, Result, Ok, Err, IfOk, IfErr}
use Rattle.std.specs.Prelude.{is_none, slice_get}
use Rattle.std.specs.List.{list_any, list_all}
use Rattle.std.proofs.lemmas.List.Folds.{list_any-append}
use Rattle.std.proofs.lemmas.List.{map-append}
use Rattle.std.proofs.lemmas.List.Elements.{All-nil, All-push, All-same, All-append, All-weaker}
use Rattle.flow_item.specs.declared.event.Event.{Event}
use Rattle.flow_item.specs.declared.event.Event.TheVariants as E
use Rattle.flow_item.specs.declared.event.PutAnswer.{PutAnswer}
use Rattle.flow_item.specs.declared.val.Val.{Val}
use Rattle.flow_item.specs.declared.event.Stop.{Stop}
use Rattle.flow_item.specs.declared.event.Stop.TheVariants.{Limit, Memory}
use Rattle.flow_item.specs.declared.event.Party.{Party}
use Rattle.flow_item.specs.declared.event.Party.TheVariants.{Caller, Worker}
use Rattle.flow_item.proofs.Tests.{and_left, and_right, both_true}
use Rattle.flow_shape.specs.declared.Shape.{Shape}
use Rattle.flow_shape.specs.Rules.{IsValid, first_fault}
use Rattle.flow_node.specs.Built.{is_built}
use Rattle.flow_machine.specs.Machine.{is_leave, task_of}
use Rattle.flow_line.specs.declared.view.About.{About}
use Rattle.flow_line.specs.Values.{Sitting, fresh}
use Rattle.flow_book.specs.declared.machine.Run.{Run}
use Rattle.flow_book.specs.declared.serve.Did.{Did}
use Rattle.flow_book.specs.declared.serve.Did.TheVariants as D
use Rattle.flow_book.specs.Answers as a
use Rattle.flow_book.specs.Serving.{IsServed}
use Rattle.flow_book.specs.Jobs.{body_of, IsJob}
use Rattle.flow_book.specs.declared.job.Job.{Job}
use Rattle.flow_book.specs.declared.job.JobBody.{JobBody}
use Rattle.flow_shape.specs.declared.Kind.{Kind}
use Rattle.flow_shape.specs.declared.Kind.TheVariants as K
use Rattle.flow_book.specs.Opening.{numbers_below, callers_of, workers_of, fresh_chairs}
use Rattle.flow_book.specs.Callers.{is_caller_of, is_worker_about, may_call, is_idle_worker, takes_puts}
use Rattle.flow_row.specs.Rows.{row_shape, row_run, row_about, IsOfRow, IsCaller, IsWorker}

-- ---- a caller

single : {X : Type 0} (p : X → Bool) (x : X) → list_any p (x ∷ []) ≡ p x
single p x = by (p x)
  where
    by : (b : Bool) → list_any (λ c. c) (b ∷ []) ≡ b
    by true = refl
    by false = refl

-- a caller goes on after each event but its leave
pub calls-on : (run : Run) (c d : Sitting Event Run) (e : Event) → a.IsDone c e d → may_call run c ≡ true → is_leave e ≡ false → may_call run d ≡ true
calls-on run c d e done is other =
    let stays : not (list_any is_leave d.own) ≡ true =
    ap (λ l. not (list_any is_leave l)) done.own
    ∙ (ap not (list_any-append is_leave c.own (e ∷ []))
    ∙ by (list_any is_leave c.own) (list_any is_leave (e ∷ [])) (and_right (is_caller_of run.callers c.party) (not (list_any is_leave c.own)) is) (single is_leave e ∙ other)) in
    both_true {a = is_caller_of run.callers d.party} {b = not (list_any is_leave d.own)}
    (ap (is_caller_of run.callers) done.party ∙ and_left (is_caller_of run.callers c.party) (not (list_any is_leave c.own)) is) stays
  where
    by : (x y : Bool) → not x ≡ true → y ≡ false → not (x || y) ≡ true
    by true y h k = h
    by false y h k = ap not k

-- and where it made none
pub calls-kept : (run : Run) (c d : Sitting Event Run) → a.IsKept c d → may_call run c ≡ true → may_call run d ≡ true
calls-kept run c d kept is = (λ i. is_caller_of run.callers (kept.party i) && not (list_any is_leave (kept.own i))) ∙ is

caller-on : (c d : Sitting Event Run) (e : Event) → a.IsDone c e d → IsCaller c → is_leave e ≡ false → IsCaller d
caller-on c d e done is other = (done.about ∙ is.0, calls-on row_run c d e done is.1 other)

caller-kept : (c d : Sitting Event Run) → a.IsKept c d → IsCaller c → IsCaller d
caller-kept c d kept is = (kept.about ∙ is.0, calls-kept row_run c d kept is.1)

-- a chair stays one of the row where a call was stopped
pub row-halted : (c d : Sitting Event Run) (Meant : Event → Type 0) (stop : Stop) → a.IsHalted c Meant d stop → IsOfRow c → IsOfRow d
row-halted c d Meant Limit h is =
    let stopped : a.IsStopped c h.0 d = h.2 in
    stopped.rest.about ∙ is
row-halted c d Meant Memory h is =
    let same : a.IsSame c d = h in
    same.0.about ∙ is

-- and after a call that was stopped
caller-halted : (c d : Sitting Event Run) (Meant : Event → Type 0) (stop : Stop) → a.IsHalted c Meant d stop → IsCaller c → IsCaller d
caller-halted c d Meant Limit h is =
    let stopped : a.IsStopped c h.0 d = h.2 in
    caller-kept c d stopped.rest is
caller-halted c d Meant Memory h is = caller-kept c d h.0 is

-- a caller that put goes on, and so does one whose put was stopped
pub caller-put : (c d : Sitting Event Run) (r : Result PutAnswer Stop) (n node port tag : ℕ) (v : Val) (Meant : Event → Type 0)
    → IfOk r (λ p. a.IsDone c (E.Put n node port tag v p) d) → IfErr r (λ s. a.IsHalted c Meant d s) → IsCaller c → IsCaller d
caller-put c d (Ok p) n node port tag v Meant made stopped is = caller-on c d (E.Put n node port tag v p) made is refl
caller-put c d (Err s) n node port tag v Meant made stopped is = caller-halted c d Meant s stopped is

-- ---- a worker

worker-kept : (c d : Sitting Event Run) → a.IsKept c d → IsWorker c → IsWorker d
worker-kept c d kept is = (kept.about ∙ is.0, (λ i. is_worker_about (kept.about i) (kept.party i) && is_none (task_of (kept.own i))) ∙ is.1)

-- a worker is idle where only what it has seen has changed
pub worker-on : (c d : Sitting Event Run) → a.IsSame c d → IsWorker c → IsWorker d
worker-on c d same is = worker-kept c d same.0 is

-- and after a call that was stopped
pub worker-halted : (c d : Sitting Event Run) (Meant : Event → Type 0) (stop : Stop) → a.IsHalted c Meant d stop → IsWorker c → IsWorker d
worker-halted c d Meant Limit h is =
    let stopped : a.IsStopped c h.0 d = h.2 in
    worker-kept c d stopped.rest is
worker-halted c d Meant Memory h is =
    let same : a.IsSame c d = h in
    worker-kept c d same.0 is

-- so it is where an event was made, or the node rests
pub worker-event : (n : ℕ) (c d : Sitting Event Run) (did : Did) (first : ℕ) (second : Option ℕ) → IsServed n c did d → did ≡ D.Event first second → IsWorker c → IsWorker d
worker-event n c d did first second served is free =
    let told : IsServed n c (D.Event first second) d = subst (λ (did : Did). IsServed n c did d) is served in
    worker-on c d told.3.rest free

pub worker-rest : (n : ℕ) (c d : Sitting Event Run) (did : Did) → IsServed n c did d → did ≡ D.Rest → IsWorker c → IsWorker d
worker-rest n c d did served is free =
    let told : IsServed n c D.Rest d = subst (λ (did : Did). IsServed n c did d) is served in
    worker-on c d told.0 free

no-body : (n : ℕ) (k : Kind) (b : JobBody) → slice_get row_shape.nodes n ≡ Some k → body_of k ≡ Some b → ⊥
no-body zero k b at is =
    let same : K.Queue None ≡ k = cc in
    let none : (let z : Option JobBody = None in z) ≡ Some b = ap body_of same ∙ is in
    cc
no-body (suc zero) k b at is =
    let same : K.Queue None ≡ k = cc in
    let none : (let z : Option JobBody = None in z) ≡ Some b = ap body_of same ∙ is in
    cc
no-body (suc (suc n)) k b at is = cc

-- no body begins in the row
pub none-starts : (n : ℕ) (c d : Sitting Event Run) (did : Did) (job : Job) → IsServed n c did d → did ≡ D.Start job → IsWorker c → ⊥
none-starts n c d did job served is free =
    let told : IsServed n c (D.Start job) d = subst (λ (did : Did). IsServed n c did d) is served in
    let here : IsJob row_about told.2.0 job = subst (λ (o : Option (About Run)). IsJob o told.2.0 job) (told.0.about ∙ free.0) told.2.2 in
    no-body job.node here.0 job.body here.1 here.2

-- ---- the row's book

pub of-book : (run : Run) (items events : ℕ) (c : Sitting Event Run) → run ≡ row_run → (items ≡ 1000000000) × (events ≡ 1000000000) → IsOfRow c → c.about ≡ a.about_of run items events
of-book run items events c same limits is = is ∙ (λ i. a.about_of (sym same i) (sym limits.0 i) (sym limits.1 i))

pub calls-book : (run : Run) (c : Sitting Event Run) → run ≡ row_run → IsCaller c → may_call run c ≡ true
calls-book run c same is = ap (λ (r : Run). may_call r c) same ∙ is.1

pub puts-book : (run : Run) → run ≡ row_run → takes_puts run.shape 0 0 ≡ true
puts-book run same = ap (λ (r : Run). takes_puts r.shape 0 0) same

pub two-nodes : (run : Run) (n : ℕ) → run ≡ row_run → n < 2 → n < length run.shape.nodes
two-nodes run n same less =
    let two : length run.shape.nodes ≡ 2 = ap (λ (r : Run). length r.shape.nodes) same in
    omega (arith, two, less)

-- ---- the row, opened

pub row-is : (run : Run) (s : Shape) → run ≡ record { shape = s; callers = 5; workers = 5 } → s ≡ row_shape → run ≡ row_run
row-is run s is same = let f : Shape → Run = λ s. record { shape = s; callers = 5; workers = 5 } in is ∙ ap f same

pub row-valid : (s : Shape) → s ≡ row_shape → IsValid s
row-valid s is = ap first_fault is

pub row-built : (s : Shape) → s ≡ row_shape → list_all is_built s.nodes ≡ true
row-built s is = ap (λ (s : Shape). list_all is_built s.nodes) is

one-more : (f : ℕ → Party) (n : ℕ) → fresh_chairs row_run 1000000000 1000000000 (map f (numbers_below (suc n))) ≡ fresh_chairs row_run 1000000000 1000000000 (map f (numbers_below n)) ++ fresh row_about (f n) ∷ []
one-more f n = ap (fresh_chairs row_run 1000000000 1000000000) (map-append f (numbers_below n) (n ∷ [])) ∙ map-append (fresh row_about) (map f (numbers_below n)) (f n ∷ [])

callers-below : (n : ℕ) → n ≤ 5 → All IsCaller (fresh_chairs row_run 1000000000 1000000000 (map Caller (numbers_below n)))
callers-below zero le = All-nil IsCaller
callers-below (suc n) le =
    let c = fresh row_about (Caller n) in
    let here : may_call row_run c ≡ true = both_true {a = nat_lt n 5} {b = true} (lt-ltb n 5 (omega (arith, le))) refl in
    All-same IsCaller _ _ (one-more Caller n) (All-push IsCaller _ c (callers-below n (omega (arith, le))) (refl, here))

workers-below : (n : ℕ) → n ≤ 5 → All IsWorker (fresh_chairs row_run 1000000000 1000000000 (map Worker (numbers_below n)))
workers-below zero le = All-nil IsWorker
workers-below (suc n) le =
    let w = fresh row_about (Worker n) in
    let idle : is_idle_worker w ≡ true = both_true {a = nat_lt n 5} {b = true} (lt-ltb n 5 (omega (arith, le))) refl in
    All-same IsWorker _ _ (one-more Worker n) (All-push IsWorker _ w (workers-below n (omega (arith, le))) (refl, idle))

pub callers-here : (run : Run) (cs : List (Sitting Event Run)) → run ≡ row_run → cs ≡ fresh_chairs run 1000000000 1000000000 (callers_of run) → All IsCaller cs
callers-here run cs same is = All-same IsCaller cs _ (is ∙ ap (λ (r : Run). fresh_chairs r 1000000000 1000000000 (callers_of r)) same) (callers-below 5 (omega arith))

pub workers-here : (run : Run) (cs : List (Sitting Event Run)) → run ≡ row_run → cs ≡ fresh_chairs run 1000000000 1000000000 (workers_of run) → All IsWorker cs
workers-here run cs same is = All-same IsWorker cs _ (is ∙ ap (λ (r : Run). fresh_chairs r 1000000000 1000000000 (workers_of r)) same) (workers-below 5 (omega arith))

-- ---- lists of chairs

pub pushed : (old new : List (Sitting Event Run)) (c : Sitting Event Run) → new ≡ old ++ c ∷ [] → All IsOfRow old → IsOfRow c → All IsOfRow new
pushed old new c is all here = All-same IsOfRow new _ is (All-push IsOfRow old c all here)

pub some-pushed : (old new : List (Sitting Event Run)) (c : Sitting Event Run) → new ≡ old ++ c ∷ [] → 0 < length new
some-pushed old new c is =
    let last = ap length is in
    let one = length-append old (c ∷ []) in
    omega (arith, last, one)

pub row-callers : (cs : List (Sitting Event Run)) → All IsCaller cs → All IsOfRow cs
row-callers cs all = All-weaker IsCaller IsOfRow (λ c is. is.0) cs all

pub row-workers : (cs : List (Sitting Event Run)) → All IsWorker cs → All IsOfRow cs
row-workers cs all = All-weaker IsWorker IsOfRow (λ c is. is.0) cs all

-- all seats of the row are those of its book
pub all-of-book : (run : Run) (items events : ℕ) (cs ws : List (Sitting Event Run)) → run ≡ row_run → (items ≡ 1000000000) × (events ≡ 1000000000) → All IsOfRow cs → All IsOfRow ws
    → All (λ (c : Sitting Event Run). c.about ≡ a.about_of run items events) (cs ++ ws)
all-of-book run items events cs ws same limits callers workers =
    All-weaker IsOfRow (λ c. c.about ≡ a.about_of run items events) (λ c is. of-book run items events c same limits is) (cs ++ ws) (All-append IsOfRow cs ws callers workers)

pub some-seats : (cs ws : List (Sitting Event Run)) → 0 < length ws → 0 < length (cs ++ ws)
some-seats cs ws some = let whole = length-append cs ws in omega (arith, whole, some)
