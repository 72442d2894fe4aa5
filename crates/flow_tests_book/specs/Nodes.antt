-- A book over one node, and those who call it.
use Rattle.std.specs.Prelude.{◌≡◌, ℕ, Bool, true, ◌&&◌, nat_eq, is_none, [], ◌∷◌, length}
use Rattle.std.specs.List.{list_all}
use Rattle.flow_item.specs.declared.event.Event.{Event}
use Rattle.flow_shape.specs.declared.Shape.{Shape}
use Rattle.flow_shape.specs.declared.Kind.{Kind}
use Rattle.flow_shape.specs.Rules.{first_fault}
use Rattle.flow_node.specs.Built.{is_built}
use Rattle.flow_line.specs.Values.{Sitting}
use Rattle.flow_book.specs.declared.machine.Run.{Run}
use Rattle.flow_book.specs.declared.job.Job.{Job}
use Rattle.flow_book.specs.Answers.{about_of}
use Rattle.flow_book.specs.Callers.{may_call, takes_puts, is_idle_worker, is_worker_about}
use Rattle.flow_book.specs.Jobs.{RunsJob}
use Rattle.flow_book.specs.Stopped.{KeepsRefused}

-- this node alone
abbrev pub one_node : Kind → Shape
one_node k = record { nodes = k ∷ []; edges = [] }

-- a valid graph of one node, for which there is code and to which callers may put
abbrev pub is_one : Shape → Bool
is_one s = (is_none (first_fault s) && list_all is_built s.nodes) && (nat_eq (length s.nodes) 1 && takes_puts s 0 0)

-- a chair of the book
abbrev pub IsOf : Run → ℕ → ℕ → Sitting Event Run → Type 0
IsOf run items events c = c.about ≡ about_of run items events

-- a caller that hasn't left
pub record Calls (run : Run) (items events : ℕ) (c : Sitting Event Run) : Type 0 where
  pub about : IsOf run items events c
  pub calls : may_call run c ≡ true
  pub kept : KeepsRefused c

-- a worker that is idle
pub record Works (run : Run) (items events : ℕ) (w : Sitting Event Run) : Type 0 where
  pub about : IsOf run items events w
  pub idle : is_idle_worker w ≡ true

-- a worker that runs this job
pub record RunsOn (run : Run) (items events : ℕ) (w : Sitting Event Run) (job : Job) : Type 0 where
  pub about : IsOf run items events w
  pub worker : is_worker_about w.about w.party ≡ true
  pub runs : RunsJob run w job
