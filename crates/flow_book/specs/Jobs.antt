-- What a worker runs for a node, and what is brought back.
use Rattle.std.specs.Prelude.{◌≡◌, ℕ, ◌<◌, Bool, true, false, ◌&&◌, if◌then◌else◌, pos, Option, Some, None, List, [], ◌∷◌, ◌++◌, take, slice_get}
use Rattle.std.specs.List.{find}
use Rattle.flow_item.specs.declared.val.Val.{Val}
use Rattle.flow_item.specs.declared.val.Val.TheVariants as V
use Rattle.flow_item.specs.declared.item.Item.{Item}
use Rattle.flow_item.specs.declared.item.Msg.{Msg}
use Rattle.flow_item.specs.declared.event.Event.{Event}
use Rattle.flow_item.specs.declared.event.Event.TheVariants as E
use Rattle.flow_item.specs.declared.event.Party.{Party}
use Rattle.flow_item.specs.declared.event.Stop.{Stop}
use Rattle.flow_item.specs.declared.event.Stop.TheVariants.{Limit, Memory}
use Rattle.flow_item.specs.Lists.{first}
use Rattle.flow_item.specs.Values.{same_val, same_item}
use Rattle.flow_shape.specs.declared.Kind.{Kind}
use Rattle.flow_shape.specs.declared.Kind.TheVariants as K
use Rattle.flow_shape.specs.declared.Shape.{Shape}
use Rattle.flow_shape.specs.Kinds.{is_input}
use Rattle.flow_shape.specs.Wiring.{is_some_and, at_node}
use Rattle.flow_machine.specs.State.{Part, body_part, input_part, continue_part, item_of}
use Rattle.flow_machine.specs.Enabled.{is_numbered}
use Rattle.flow_machine.specs.Machine.{Task, task_of, state_of}
use Rattle.flow_machine.specs.Readers.{tickets_of}
use Rattle.flow_progress.specs.NeverStuck.{may_answer}
use Rattle.flow_body.specs.declared.ask.Ask.{Ask}
use Rattle.flow_line.specs.declared.view.About.{About}
use Rattle.flow_line.specs.Values.{Sitting}
use Rattle.flow_book.specs.declared.machine.Run.{Run}
use Rattle.flow_book.specs.declared.job.Job.{Job}
use Rattle.flow_book.specs.declared.job.JobBody.{JobBody}
use Rattle.flow_book.specs.declared.job.JobBody.TheVariants as J
use Rattle.flow_book.specs.declared.job.Took.{Took}
use Rattle.flow_book.specs.declared.job.Took.TheVariants as T
use Rattle.flow_book.specs.Answers.{IsSame, IsDone}
use Rattle.flow_book.specs.Callers.{number_of}

-- ---- jobs

-- what runs at a node of this kind: a body of the shelf, or at an async node the outside
abbrev pub body_of : Kind → Option JobBody
body_of (K.Function reject limit body arg) = Some (J.Run body arg)
body_of (K.Multi reject limit body arg outs) = Some (J.Run body arg)
body_of (K.Input body arg) = Some (J.Run body arg)
body_of (K.Continue body arg) = Some (J.Run body arg)
body_of (K.Async reject limit arg) = Some (J.Submit arg)
body_of k = None

-- whether the bodies of the kind run by turns, and not on items that came
abbrev pub has_turns : Kind → Bool
has_turns (K.Input body arg) = true
has_turns (K.Continue body arg) = true
has_turns k = false

-- the item of a turn at node n: the turn is its number, its tag and its value
abbrev pub turn_item : ℕ → ℕ → Item
turn_item n turn = item_of n turn turn (V.Int (pos turn))

-- the item on which the next body of node n runs
abbrev pub next_item : ℕ → Part → Option Item
next_item n (body_part w) = first w.ready
next_item n (input_part f) = Some (turn_item n f.turn)
next_item n (continue_part c) = Some (turn_item n c.turn)
next_item n p = None

-- the job is that of the next body at its node after these events
abbrev pub IsJob : Option (About Run) → List Event → Job → Type 0
IsJob None es job = ⊥
IsJob (Some about) es job =
    (k : Kind) × (slice_get about.setup.shape.nodes job.node ≡ Some k) × (body_of k ≡ Some job.body) × (next_item job.node (state_of about.setup.shape job.node k es).part ≡ Some job.item)

-- the chair's party runs the job
abbrev pub RunsJob : Run → Sitting Event Run → Job → Type 0
RunsJob run c job =
    (let t : Task = Some (job.node, job.item.id.no) in task_of c.own ≡ t) × ((k : Kind) × (slice_get run.shape.nodes job.node ≡ Some k) × (body_of k ≡ Some job.body))

abbrev pub is_submit : JobBody → Bool
is_submit (J.Submit arg) = true
is_submit b = false

-- ---- its end

-- the messages that the end of a body of node n brings: at an input node the first alone
abbrev pub end_outs : Shape → ℕ → List Msg → List Msg
end_outs shape n outs = if at_node shape n is_input then take 1 outs else outs

-- the party ends the job with these messages
abbrev pub Ends : Shape → Party → Job → List Msg → Event → Type 0
Ends shape p job outs e = (number : ℕ) × (e ≡ E.End (number_of p) job.node job.item.id.no number (end_outs shape job.node outs))

abbrev pub IsEnded : Shape → Sitting Event Run → Job → List Msg → Sitting Event Run → Type 0
IsEnded shape c job outs d = (number : ℕ) × IsDone c (E.End (number_of c.party) job.node job.item.id.no number (end_outs shape job.node outs)) d

-- whether a body of node n may end with these messages
abbrev pub answers_about : Option (About Run) → ℕ → List Msg → Bool
answers_about None n outs = false
answers_about (Some about) n outs = at_node about.setup.shape n (λ k. may_answer k outs)

-- the messages that a refused call hands back: none where its chair keeps the event that has them
abbrev pub outs_back : Option (Event × ℕ) → Stop → List Msg → List Msg
outs_back None Limit outs = []
outs_back None Memory outs = outs
outs_back (Some kept) stop outs = outs

-- the messages of an event that comes back
abbrev pub outs_of : Event → List Msg
outs_of (E.End w n i number outs) = outs
outs_of (E.Back w n i number outs) = outs
outs_of e = []

abbrev pub outs_in : Option Event → List Msg
outs_in None = []
outs_in (Some e) = outs_of e

-- ---- tickets

-- whether a node of this kind submits with this argument
abbrev pub submits : Kind → Val → Bool
submits (K.Async reject limit arg) v = same_val arg v
submits k v = false

-- whether ticket i is open, and its item is this one
abbrev pub is_ticket : Part → ℕ → Item → Bool
is_ticket p i item = is_some_and (same_item item) (find (is_numbered i) (tickets_of p))

-- whether the ask is that of an open ticket after these events
abbrev pub is_asked : Shape → List Event → Ask → Bool
is_asked shape es ask = at_node shape ask.node (λ k. submits k ask.arg && is_ticket (state_of shape ask.node k es).part ask.ticket ask.item)

-- the party brings the ticket back with these messages
abbrev pub Brings : Shape → Party → Ask → List Msg → List Event → Event → Type 0
Brings shape p ask outs es e = (number : ℕ) × (e ≡ E.Back (number_of p) ask.node ask.ticket number outs) × (is_asked shape es ask ≡ true)

-- what became of the answer, as the worker's chair tells it
abbrev pub IsBrought : Shape → Sitting Event Run → Ask → List Msg → Took → Sitting Event Run → Type 0
IsBrought shape c ask outs T.Took d =
    (number : ℕ) × IsDone c (E.Back (number_of c.party) ask.node ask.ticket number outs) d
    × ((log : List Event) × (d.seen ≡ log ++ E.Back (number_of d.party) ask.node ask.ticket number outs ∷ []) × (is_asked shape log ask ≡ true))
IsBrought shape c ask outs T.Stranger d = IsSame c d × (c.looks < d.looks) × (is_asked shape d.seen ask ≡ false)

-- and so where the chair had looked before
abbrev pub IsBack : Shape → Sitting Event Run → Ask → List Msg → Took → Sitting Event Run → Type 0
IsBack shape c ask outs T.Took d = IsBrought shape c ask outs T.Took d
IsBack shape c ask outs T.Stranger d = IsSame c d × (is_asked shape d.seen ask ≡ false)
