-- What an event changes at its nodes, and which event a change is of.
use Rattle.std.specs.Prelude.{◌≡◌, ℕ, true, false, Option, None, List, [], if◌then◌else◌, IsSome}
use Rattle.flow_item.specs.declared.val.Val.{Val}
use Rattle.flow_item.specs.declared.item.Msg.{Msg}
use Rattle.flow_item.specs.declared.event.Event.{Event}
use Rattle.flow_item.specs.declared.event.Event.TheVariants as E
use Rattle.flow_item.specs.declared.event.PutAnswer.TheVariants.{Accepted, Refused}
use Rattle.flow_item.specs.declared.event.Party.TheVariants.{Node}
use Rattle.flow_item.specs.Events.{parties_of, both}
use Rattle.flow_item.specs.Legal.{takes_part}
use Rattle.flow_machine.specs.State.{casts_of}
use Rattle.flow_machine.specs.Enabled.{allows_at, may_end}
use Rattle.flow_machine.specs.After.{link_of}
use Rattle.flow_node.specs.Built.{is_reserving}
use Rattle.flow_node.specs.Readied.{Readied, IsPrepared, runs_bodies, given_value, is_from, is_loop}
use Rattle.flow_node.specs.declared.change.Change.{Change}
use Rattle.flow_node.specs.declared.change.Change.TheVariants as H

-- what the event changes at its nodes, without the values that it carries
abbrev pub change_of : Event → Change
change_of (E.Put c n port tag val (Accepted number land)) = H.Put port tag land
change_of (E.Put c n port tag val (Refused cause)) = H.Refused
change_of (E.Cancel c n dropped) = H.Cancel
change_of (E.Give l i number land) = H.Give l.edge l.port i.id.no i.tag land
change_of (E.Refuse l i) = H.Refuse l.edge
change_of (E.None l) = H.None l.edge
change_of (E.Start w n i) = H.Start
change_of (E.End w n i number outs) = H.End i
change_of (E.Form n number parts) = H.Form number
change_of (E.Shut n i ended) = H.Shut ended
change_of (E.Idle n) = H.Idle
change_of e = H.Other

-- the change is of this event, of which the node is the only one, and which it allows and is prepared for
pub record ChangesOne (v : Readied) (c : Change) (e : Event) : Type 0 where
  pub change : c ≡ change_of e
  pub alone : link_of e ≡ None
  pub party : takes_part (parties_of e) (Node v.node.place.node) ≡ true
  pub allowed : allows_at v.node.place v.node.state e ≡ true
  pub prepared : IsPrepared v e

-- the change is of this event over an edge from the node to another, which the node allows and is prepared for
pub record ChangesFrom (v : Readied) (c : Change) (e : Event) : Type 0 where
  pub change : c ≡ change_of e
  pub met : is_reserving e ≡ false
  pub from : is_from v.node.place.node e ≡ true
  pub apart : is_loop e ≡ false
  pub allowed : allows_at v.node.place v.node.state e ≡ true
  pub prepared : IsPrepared v e

-- the change is of this event over an edge from another node, which gave this; the node allows it and is prepared for it
pub record ChangesTo (v : Readied) (c : Change) (o : Option Val) (e : Event) : Type 0 where
  pub change : c ≡ change_of e
  pub met : is_reserving e ≡ false
  pub over : IsSome (link_of e)
  pub to : is_from v.node.place.node e ≡ false
  pub party : takes_part (parties_of e) (Node v.node.place.node) ≡ true
  pub allowed : allows_at v.node.place v.node.state e ≡ true
  pub prepared : IsPrepared v e
  pub given : o ≡ given_value e

-- the change is of this event from the one node to the other, which both allow and are prepared for
pub record ChangesTwo (v w : Readied) (c : Change) (e : Event) : Type 0 where
  pub change : c ≡ change_of e
  pub ends : parties_of e ≡ both (Node v.node.place.node) (Node w.node.place.node)
  pub allowed : allows_at v.node.place v.node.state e ≡ true
  pub other_allowed : allows_at w.node.place w.node.state e ≡ true
  pub prepared : IsPrepared v e
  pub other_prepared : IsPrepared w e

-- messages with which the body of item i may end, of whose casts the node is prepared
pub record EndsBody (v : Readied) (i : ℕ) : Type 0 where
  pub number : ℕ
  pub outs : List Msg
  pub may : may_end v.node.place.kind v.node.state.part i outs ≡ true
  pub casts : v.casts ≡ (if runs_bodies v.node.state.part then casts_of v.node.place.node number outs else [])
