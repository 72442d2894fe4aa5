-- The events that chairs keep.
use Rattle.std.specs.Prelude.{ℕ, Option, Some, None, List, [], ◌∷◌, if◌then◌else◌}
use Rattle.std.specs.Option.{is_some}
use Rattle.flow_line.specs.Values.{Sitting}

module _ {E : Type 0} where
  -- the event without its length
  abbrev pub kept_event : Option (E × ℕ) → Option E
  kept_event None = None
  kept_event (Some kept) = Some kept.0

  -- the first where there is one, else the second
  abbrev pub or_else : Option E → Option E → Option E
  or_else None y = y
  or_else (Some e) y = Some e

module _ {E S : Type 0} where
  -- the chair, which keeps nothing now
  abbrev pub without_kept : Sitting E S → Sitting E S
  without_kept c = record c { kept = None }

  -- the event that the first chair keeps which keeps one
  abbrev pub first_kept : List (Sitting E S) → Option E
  first_kept [] = None
  first_kept (c ∷ cs) = or_else (kept_event c.kept) (first_kept cs)

  -- the chairs after that event was taken out
  abbrev pub without_first_kept : List (Sitting E S) → List (Sitting E S)
  without_first_kept [] = []
  without_first_kept (c ∷ cs) = if is_some c.kept then without_kept c ∷ cs else c ∷ without_first_kept cs
