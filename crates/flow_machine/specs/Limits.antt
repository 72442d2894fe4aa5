-- Limits of bodies and limiters, and limits of a run.
use Rattle.std.specs.Prelude.{ℕ, ◌+◌, Bool, true, ◌&&◌, ◌||◌, nat_eq, nat_lt, nat_le, Option, Some, None, List, length}
use Rattle.flow_item.specs.declared.event.Event.{Event}
use Rattle.flow_item.specs.Lists.{each_place}
use Rattle.flow_item.specs.Events.{births_of, births}
use Rattle.flow_shape.specs.declared.Kind.{Kind}
use Rattle.flow_shape.specs.declared.Kind.TheVariants as K
use Rattle.flow_shape.specs.declared.Shape.{Shape}
use Rattle.flow_shape.specs.Kinds.{limit_of}
use Rattle.flow_machine.specs.State.{Part, body_part, limiter_part}
use Rattle.flow_machine.specs.Machine.{may_follow, is_of_run, state_of}

abbrev pub is_within_limit : Option ℕ → ℕ → Bool
is_within_limit None n = true
is_within_limit (Some limit) n = nat_le n limit

abbrev pub threshold_of : Kind → Option ℕ
threshold_of (K.Limiter threshold by_value) = Some threshold
threshold_of k = None

abbrev pub keeps_limit : Kind → Part → Bool
keeps_limit k (body_part w) = is_within_limit (limit_of k) (length w.ready + length w.running)
keeps_limit k (limiter_part g) = is_within_limit (threshold_of k) (g.count + length g.hands)
keeps_limit k p = true

-- ready and running bodies are at most the limit, count and hands at most the threshold
abbrev pub limits_kept : Shape → List Event → Bool
limits_kept shape es = each_place (λ n k. keeps_limit k (state_of shape n k es).part) 0 shape.nodes

-- after a legal journal the event may come next, and the run has reached its limit on births or on events
abbrev pub passes_limit : Shape → ℕ → ℕ → ℕ → ℕ → List Event → Event → Bool
passes_limit shape callers workers items events es e =
    may_follow shape es e && is_of_run shape callers workers e
    && (nat_lt 0 (births_of e) && nat_le items (births es) || nat_eq (length es) events)
