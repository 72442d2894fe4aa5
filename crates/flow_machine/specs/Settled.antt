-- Journals after which nothing is open and nothing moves.
use Rattle.std.specs.Prelude.{◌≡◌, ℕ, Bool, true, false, List, IsTrue}
use Rattle.flow_item.specs.declared.event.Event.{Event}
use Rattle.flow_item.specs.declared.event.Event.TheVariants as E
use Rattle.flow_shape.specs.declared.Shape.{Shape}
use Rattle.flow_machine.specs.Machine.{may_follow, open_after}

-- an event that moves a message or starts a body
abbrev pub is_move : Event → Bool
is_move (E.Give l i number land) = true
is_move (E.Hold l i number) = true
is_move (E.Refuse l i) = true
is_move (E.None l) = true
is_move (E.Take l i) = true
is_move (E.Free l i) = true
is_move (E.Start w n i) = true
is_move (E.Form n number parts) = true
is_move (E.Split n i number outs) = true
is_move (E.Shut n i ended) = true
is_move e = false

-- nothing is open after a legal journal, and nothing moves
pub record IsSettled (shape : Shape) (es : List Event) : Type 0 where
  pub closed : open_after shape es ≡ 0
  pub still : (e : Event) → IsTrue (is_move e) → may_follow shape es e ≡ false
