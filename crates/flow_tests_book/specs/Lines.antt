-- A line of one caller and one queue.
use Rattle.std.specs.Prelude.{◌≡◌, ℕ, None}
use Rattle.flow_item.specs.declared.event.Event.{Event}
use Rattle.flow_item.specs.declared.event.Party.{Party}
use Rattle.flow_item.specs.declared.event.Party.TheVariants.{Caller, Node}
use Rattle.flow_shape.specs.declared.Kind.TheVariants as K
use Rattle.flow_line.specs.Values.{Sitting, fresh}
use Rattle.flow_book.specs.declared.machine.Run.{Run}
use Rattle.flow_book.specs.Answers.{about_of}
use Rattle.flow_tests_book.specs.Nodes.{one_node}

-- one queue, one caller and one worker
abbrev pub queue_run : Run
queue_run = record { shape = one_node (K.Queue None); callers = 1; workers = 1 }

abbrev pub the_caller : Party
the_caller = Caller 0

abbrev pub the_queue : Party
the_queue = Node 0

-- a chair of this party, which has seen nothing
abbrev pub IsSeat : Party → ℕ → ℕ → Sitting Event Run → Type 0
IsSeat p items events c = c ≡ fresh (about_of queue_run items events) p
