-- A node's parts in code, as contracts see them.
use Rattle.std.specs.Prelude.{◌≡◌, ℕ, Bool, true, false, ◌&&◌, nat_eq, nat_le, Option, List, [], ◌∷◌, ◌++◌, length, map, filter}
use Rattle.std.specs.List.{list_all}
use Rattle.flow_item.specs.declared.val.Val.{Val}
use Rattle.flow_item.specs.declared.item.Item.{Item}
use Rattle.flow_item.specs.Lists.{is_empty, first, rest, drop_first}
use Rattle.flow_shape.specs.declared.Kind.{Kind}
use Rattle.flow_shape.specs.declared.Kind.TheVariants as K
use Rattle.flow_shape.specs.declared.Wire.{Wire}
use Rattle.flow_shape.specs.Places.{edge_number}
use Rattle.flow_item.specs.declared.event.Land.TheVariants as L
use Rattle.flow_machine.specs.State.{Cast, StoreState, BodyState, Part, body_part, option_list, cast_give, cast_refuse}
use Rattle.flow_machine.specs.Offers.{Room, lands, all_in}
use Rattle.flow_machine.specs.Enabled.{is_numbered}
use Rattle.flow_machine.specs.After.{with_promotion}
use Rattle.flow_cast.specs.Casts.{RoomyCast, is_distinct}
use Rattle.flow_store.specs.Stores.{queue_of, ranks_of}
use Rattle.flow_node.specs.declared.store.StorePart.{StorePart}
use Rattle.flow_node.specs.declared.store.StorePart.TheVariants as T

-- ---- a store that gives each item to one edge

abbrev pub store_kind : StorePart → Kind
store_kind (T.Queue q) = K.Queue q.capacity
store_kind (T.Buffer q) = K.Buffer q.capacity
store_kind (T.Priority r) = K.Priority
store_kind (T.Sequencer t) = K.Sequencer

abbrev pub store_state : StorePart → StoreState
store_state (T.Queue q) = queue_of q
store_state (T.Buffer q) = queue_of q
store_state (T.Priority r) = ranks_of r
store_state (T.Sequencer t) = t.state

-- for how many more items there is room
abbrev pub store_spare : StorePart → ℕ
store_spare (T.Queue q) = q.spare
store_spare (T.Buffer q) = q.spare
store_spare (T.Priority r) = r.spare
store_spare (T.Sequencer t) = t.spare

-- with one more item
abbrev pub with_item : Item → StoreState → StoreState
with_item i s = record s { items = s.items ++ i ∷ [] }

-- whether what comes is accepted, and isn't lost
abbrev pub takes_in : Room → Bool
takes_in (lands L.Lost) = false
takes_in (lands land) = true
takes_in r = false

-- ---- a function

-- the rules of its kind, the items beside the outbox and for how many more there is room, its outbox, and the casts that it is prepared with
pub record FunctionView : Type 0 where
  pub limit : Option ℕ
  pub body : ℕ
  pub arg : Val
  pub work : BodyState
  pub spare : ℕ
  pub outbox : List RoomyCast
  pub coming : List RoomyCast

abbrev pub cast_in : RoomyCast → Cast
cast_in c = c.cast

abbrev pub item_in : RoomyCast → Item
item_in c = c.cast.item

abbrev pub function_kind : FunctionView → Kind
function_kind f = K.Function false f.limit f.body f.arg

abbrev pub function_state : FunctionView → BodyState
function_state f = record f.work { outbox = map cast_in f.outbox }

abbrev pub function_part : FunctionView → Part
function_part f = body_part (function_state f)

-- the edges out of one output port
abbrev pub edges_over : List Wire → ℕ → List ℕ
edges_over outs port = map edge_number (filter (λ w. nat_eq w.out port) outs)

-- whether the cast met edges of its port, each once, has room for all of them, and none holds it
abbrev pub is_roomy : List Wire → RoomyCast → Bool
is_roomy outs c = is_distinct c.cast.met && all_in c.cast.met (edges_over outs c.cast.port) && nat_le (length (edges_over outs c.cast.port)) c.edges && is_empty c.cast.holds

abbrev pub are_roomy : List Wire → List RoomyCast → Bool
are_roomy outs cs = list_all (is_roomy outs) cs

-- new is old with casts behind it that have their room
pub record Adds (outs : List Wire) (old new : List RoomyCast) : Type 0 where
  pub added : List RoomyCast
  pub list : new ≡ old ++ added
  pub roomy : are_roomy outs added ≡ true

-- a function's items after the first ready one started, and after a cancel
abbrev pub work_after_start : BodyState → BodyState
work_after_start w = record w { ready = rest w.ready; running = w.running ++ option_list (first w.ready) }

abbrev pub work_after_cancel : BodyState → BodyState
work_after_cancel w = record w { waiting = []; ready = []; cancelled = true }

-- and after the running item of this number left
abbrev pub work_after_end : Option ℕ → ℕ → BodyState → BodyState
work_after_end limit number w = with_promotion limit record w { running = drop_first (is_numbered number) w.running }

abbrev pub given_over : ℕ → RoomyCast → RoomyCast
given_over x c = record c { cast = cast_give x c.cast }

abbrev pub refused_over : ℕ → RoomyCast → RoomyCast
refused_over x c = record c { cast = cast_refuse false x c.cast }
