-- The first refusal of a run, and what a chair is told of it.
use Rattle.std.specs.Prelude.{◌≡◌, ℕ, true, Option, Some, None, List, length, ⊤}
use mathlib.Core.List.{IsPrefix}
use Rattle.flow_item.specs.declared.event.Event.{Event}
use Rattle.flow_item.specs.declared.event.Stop.{Stop}
use Rattle.flow_item.specs.declared.event.Stop.TheVariants.{Limit, Memory}
use Rattle.flow_line.specs.declared.view.About.{About}
use Rattle.flow_line.specs.Values.{Sitting}
use Rattle.flow_book.specs.declared.machine.Run.{Run}
use Rattle.flow_book.specs.Answers.{passes}

-- some event would have come next but for a limit, after a beginning of these events
abbrev pub HasPassed : Option (About Run) → List Event → Type 0
HasPassed about seen = ∥ ((e : Event) × (es : List Event) × IsPrefix es seen × (passes about es e ≡ true)) ∥₁

-- what the chair has seen shows that a limit was reached, where a call stopped at one
abbrev pub Shows : Sitting Event Run → Stop → Type 0
Shows c Limit = HasPassed c.about c.seen
Shows c Memory = ⊤

-- the event that is kept would have come next but for a limit, after the beginning of these events that has the length kept with it
abbrev pub PassesKept : Option (About Run) → List Event → Option (Event × ℕ) → Type 0
PassesKept about seen None = ⊤
PassesKept about seen (Some kept) = (es : List Event) × IsPrefix es seen × (length es ≡ kept.1) × (passes about es kept.0 ≡ true)

-- the chair keeps nothing, or an event that a limit refused
abbrev pub KeepsRefused : Sitting Event Run → Type 0
KeepsRefused c = PassesKept c.about c.seen c.kept

-- the first refusal where there is one, else this one
abbrev pub first_stop : Option Stop → Stop → Option Stop
first_stop None stop = Some stop
first_stop (Some first) stop = Some first

-- a limit where an event is kept
abbrev pub stop_kept : Option (Event × ℕ) → Option Stop
stop_kept None = None
stop_kept (Some kept) = Some Limit

-- what a chair is told: the first refusal where there is one, else a limit where it keeps an event
abbrev pub told_stop : Option Stop → Option (Event × ℕ) → Option Stop
told_stop None kept = stop_kept kept
told_stop (Some first) kept = Some first
