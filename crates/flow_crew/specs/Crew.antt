-- Who works on a graph, and what a call leaves.
use Rattle.std.specs.Prelude.{◌≡◌, ℕ, ◌<◌, ◌≤◌, Bool, true, false, is_none, Option, Some, None, List, [], slice_get, length, IfSome, ⊤}
use Rattle.std.specs.List.{count_by}
use mathlib.Core.List.{IsPrefix}
use Rattle.flow_item.specs.declared.event.Event.{Event}
use Rattle.flow_shape.specs.declared.Kind.{Kind}
use Rattle.flow_machine.specs.Machine.{is_leave, task_of, open_after}
use Rattle.flow_machine.specs.Bodies.{Meanings, body_kept}
use Rattle.flow_machine.specs.Scripts.{sent_by}
use Rattle.flow_line.specs.declared.view.About.{About}
use Rattle.flow_line.specs.Values.{Sitting}
use Rattle.flow_pool.specs.declared.pool.Pool.{Pool}
use Rattle.flow_pool.specs.declared.post.Post.{Post}
use Rattle.flow_pool.specs.Posts.{IsPostOf}
use Rattle.flow_book.specs.declared.machine.Run.{Run}
use Rattle.flow_book.specs.declared.job.Job.{Job}
use Rattle.flow_book.specs.declared.job.JobBody.{JobBody}
use Rattle.flow_book.specs.declared.serve.Did.{Did}
use Rattle.flow_book.specs.declared.serve.Did.TheVariants as D
use Rattle.flow_book.specs.Answers.{about_of, passes}
use Rattle.flow_book.specs.Callers.{is_caller_of, is_worker_about}
use Rattle.flow_book.specs.Jobs.{body_of, IsJob, RunsJob}
use Rattle.flow_book.specs.Stopped.{Shows}
use Rattle.flow_crew.specs.Bodies.{KeepsOwn}
use Rattle.flow_crew.specs.declared.waited.Waited.{Waited}
use Rattle.flow_crew.specs.declared.waited.Waited.TheVariants as W
use Rattle.flow_crew.specs.declared.worker.Step.{Step}
use Rattle.flow_crew.specs.declared.worker.Step.TheVariants as S
use Rattle.flow_crew.specs.declared.worker.Turn.{Turn}
use Rattle.flow_crew.specs.declared.worker.Turn.TheVariants as T

-- ---- chairs

-- the event that is kept would have come next but for a limit, after the beginning of these events that has the length kept with it, and is such there
abbrev pub KeptSuch : (List Event → Event → Type 0) → Option (About Run) → List Event → Option (Event × ℕ) → Type 0
KeptSuch Such about seen None = ⊤
KeptSuch Such about seen (Some kept) = (es : List Event) × IsPrefix es seen × (length es ≡ kept.1) × (passes about es kept.0 ≡ true) × Such es kept.0

-- the chair keeps nothing, or an event that a limit refused and that is such
abbrev pub KeepsSuch : (List Event → Event → Type 0) → Sitting Event Run → Type 0
KeepsSuch Such c = KeptSuch Such c.about c.seen c.kept

-- the messages of the event that comes next are those of its body's meaning
abbrev pub IsAnswered : Meanings → Run → List Event → Event → Type 0
IsAnswered m run es e = body_kept m run.shape es e ≡ true

-- and it is no caller's
abbrev pub IsWork : Meanings → Run → List Event → Event → Type 0
IsWork m run es e = IsAnswered m run es e × (sent_by e ≡ [])

-- a caller's chair of the run, which keeps nothing but an event that a limit refused
pub record IsCaller (m : Meanings) (run : Run) (items events : ℕ) (c : Sitting Event Run) : Type 0 where
  pub about : c.about ≡ about_of run items events
  pub caller : is_caller_of run.callers c.party ≡ true
  pub kept : KeepsSuch (IsAnswered m run) c

-- a worker's chair of the run, which keeps nothing but an event of its work that a limit refused, and runs nothing unless it is busy; the bodies that it ended have the messages of their meanings
pub record IsWorker (m : Meanings) (run : Run) (items events : ℕ) (c : Sitting Event Run) (busy : Bool) : Type 0 where
  pub about : c.about ≡ about_of run items events
  pub worker : is_worker_about c.about c.party ≡ true
  pub kept : KeepsSuch (IsWork m run) c
  pub idle : busy ≡ false → is_none (task_of c.own) ≡ true
  pub bodies : KeepsOwn m run.shape c

-- the body is that of the node in the run
abbrev pub HasBody : Run → ℕ → JobBody → Type 0
HasBody run n body = (k : Kind) × (slice_get run.shape.nodes n ≡ Some k) × (body_of k ≡ Some body)

-- the job is that of a body which was the next one after a beginning of what the chair has seen
abbrev pub HasBegun : Sitting Event Run → Job → Type 0
HasBegun c job = (log : List Event) × IsPrefix log c.seen × IsJob c.about log job

-- whether a body was started
abbrev pub is_started : Did → Bool
is_started (D.Start job) = true
is_started did = false

-- what was done names nodes of the run, and a job that the chair's party runs
abbrev pub IsGiven : Run → Sitting Event Run → Did → Type 0
IsGiven run c (D.Event first second) = (first < length run.shape.nodes) × IfSome second (λ n. n < length run.shape.nodes)
IsGiven run c (D.Start job) = RunsJob run c job × (job.node < length run.shape.nodes) × HasBegun c job
IsGiven run c D.Rest = ⊤

-- the chair's party made some events more, or none, and saw more, or nothing
pub record HasWorked (c d : Sitting Event Run) : Type 0 where
  pub party : d.party ≡ c.party
  pub own : IsPrefix c.own d.own
  pub seen : IsPrefix c.seen d.seen
  pub looks : c.looks ≤ d.looks

-- a worker of the run with its post in the pool, which runs nothing
pub record IsFree (m : Meanings) (run : Run) (items events : ℕ) (pool : Pool) (c : Sitting Event Run) (post : Post) (busy : Bool) : Type 0 where
  pub of : IsWorker m run items events c busy
  pub place : IsPostOf pool post
  pub idle : busy ≡ false

-- a turn leaves a worker of the run with its post in the pool, which runs nothing unless something was refused
pub record HasTurned (m : Meanings) (run : Run) (items events : ℕ) (pool : Pool) (c d : Sitting Event Run) (post : Post) (busy refused : Bool) : Type 0 where
  pub of : IsWorker m run items events d busy
  pub place : IsPostOf pool post
  pub worked : HasWorked c d
  pub idle : refused ≡ false → busy ≡ false

-- ---- how calls end

-- whether something was refused in the turn
abbrev pub is_refused : Turn → Bool
is_refused T.Refused = true
is_refused t = false

-- and in the look at a node
abbrev pub is_halting : Step → Bool
is_halting S.Refused = true
is_halting s = false

-- how a caller's wait ended, as its chair tells: it saw the whole journal at a moment of the call, and nothing was open; or it shows why all is halted
abbrev pub IsWaited : Run → Sitting Event Run → Waited → Sitting Event Run → Type 0
IsWaited run c W.Quiet d = (c.looks < d.looks) × (open_after run.shape d.seen ≡ 0)
IsWaited run c (W.Halted stop) d = Shows d stop

-- how the work of a worker ended, as its chair tells: it saw the whole journal at a moment of the call, all callers had left, and nothing was open; or it shows why all is halted
abbrev pub IsEnded : Run → Sitting Event Run → Waited → Sitting Event Run → Type 0
IsEnded run c W.Quiet d = (c.looks < d.looks) × (count_by is_leave d.seen ≡ run.callers) × (open_after run.shape d.seen ≡ 0)
IsEnded run c (W.Halted stop) d = Shows d stop
