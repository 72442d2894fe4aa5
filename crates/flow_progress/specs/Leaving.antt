-- Callers leave once.
use Rattle.std.specs.Prelude.{◌≡◌, ℕ, ◌≤◌, true, List}
use Rattle.std.specs.List.{count_by}
use Rattle.flow_item.specs.declared.event.Event.{Event}
use Rattle.flow_shape.specs.declared.Shape.{Shape}
use Rattle.flow_machine.specs.Machine.{is_leave, is_run}

-- in a run each caller leaves once at most, so there are no more leaves than callers
abbrev pub CallersLeaveOnce : Type 0
CallersLeaveOnce = (shape : Shape) (callers workers : ℕ) (es : List Event) → is_run shape callers workers es ≡ true → count_by is_leave es ≤ callers
