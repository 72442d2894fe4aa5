-- an input keeps the item that a rejecting function refused until it is asked for
use Rattle.std.specs.Prelude.{◌≡◌, true, Some, None, List, [], ◌∷◌}
use Rattle.std.proofs.Common.{refl}
use Rattle.flow_item.specs.declared.event.Event.{Event}
use Rattle.flow_item.specs.Values.{lists_compute}
use Rattle.flow_shape.specs.declared.Shape.{Shape}
use Rattle.flow_shape.specs.declared.Step.{Step}
use Rattle.flow_shape.specs.declared.Step.TheVariants as T
use Rattle.flow_shape.specs.declared.Kind.TheVariants as K
use Rattle.flow_item.specs.Events.{births}
use Rattle.flow_machine.specs.Machine.{is_run, open_after, modes_agree}
use Rattle.flow_machine.specs.Reservations.{holds_match}
use Rattle.flow_machine.specs.Limits.{limits_kept}
use Rattle.flow_machine.specs.Ledger.{tally_of, kept_of, tallies_add_up}
use Rattle.flow_machine.specs.Scripts.{scripts_kept}
use Rattle.flow_machine.specs.Bodies.{bodies_kept}
use Rattle.flow_machine.specs.Schedule.{is_scheduled}
use Rattle.flow_vectors.specs.Builtin.{builtin}
use Rattle.flow_vectors.specs.Lines.{int, below, kept, ended_out, ended_lost, msg, edge, put, put_busy, act, leave, give, refuse, none, start, end, shut, idle}

abbrev shape : Shape
shape = record { nodes = ((K.Input 8 (int 2)) ∷ (K.Function true (Some 1) 0 (int 0)) ∷ (K.Function true None 2 (int 0)) ∷ (K.Queue None) ∷ []); edges = (edge 0 0 1 0 ∷ edge 1 0 3 0 ∷ edge 1 0 2 0 ∷ []) }

abbrev scripts : List (List Step)
scripts = (((T.Put 1 0 9 (int 100)) ∷ (T.Act 0) ∷ (T.Put 1 0 8 (int 1)) ∷ []) ∷ [])

abbrev journal : List Event
journal = ((put 0 1 0 9 0 kept (int 100)) ∷ (act 0 0) ∷ (put_busy 0 1 0 8 1 (int 1)) ∷ (leave 0) ∷ (start 0 0 0) ∷ (end 0 0 0 0 (msg 0 0 (int 0) ∷ [])) ∷ (refuse 0 0 1 0 0) ∷ (idle 0) ∷ (start 0 1 0) ∷ (end 0 1 0 1 (msg 0 9 (int 100) ∷ [])) ∷ (give 1 1 3 0 1 0 kept 9 (int 100)) ∷ (give 2 1 2 0 1 0 kept 9 (int 100)) ∷ (shut 1 1 ended_out) ∷ (give 0 0 1 0 0 2 kept 0 (int 0)) ∷ (shut 0 0 ended_out) ∷ (start 0 0 1) ∷ (end 0 0 1 1 (msg 0 1 (int 1) ∷ [])) ∷ (idle 0) ∷ (start 0 1 2) ∷ (end 0 1 2 3 (msg 0 0 (int 0) ∷ [])) ∷ (give 1 1 3 0 3 1 kept 0 (int 0)) ∷ (give 2 1 2 0 3 1 kept 0 (int 0)) ∷ (shut 1 3 ended_out) ∷ (give 0 0 1 0 1 4 kept 1 (int 1)) ∷ (shut 0 1 ended_out) ∷ (start 0 0 2) ∷ (end 0 0 2 2 []) ∷ (idle 0) ∷ (start 0 1 4) ∷ (end 0 1 4 5 (msg 0 1 (int 1) ∷ [])) ∷ (give 1 1 3 0 5 2 kept 1 (int 1)) ∷ (give 2 1 2 0 5 2 kept 1 (int 1)) ∷ (shut 1 5 ended_out) ∷ (none 0 0 1 0) ∷ (idle 0) ∷ (idle 1) ∷ (start 0 2 0) ∷ (end 0 2 0 3 (msg 0 9 (below 99) ∷ [])) ∷ (shut 2 3 ended_lost) ∷ (start 0 2 1) ∷ (end 0 2 1 4 (msg 0 0 (int 0) ∷ [])) ∷ (shut 2 4 ended_lost) ∷ (start 0 2 2) ∷ (end 0 2 2 5 (msg 0 1 (below 0) ∷ [])) ∷ (shut 2 5 ended_lost) ∷ (idle 2) ∷ (idle 3) ∷ [])

legal : is_run shape 1 1 journal ≡ true
unfolding lists_compute
legal = refl

bearing : births journal ≡ 17
unfolding lists_compute
bearing = refl

closed : open_after shape journal ≡ 0
unfolding lists_compute
closed = refl

agreeing : modes_agree shape journal ≡ true
unfolding lists_compute
agreeing = refl

matching : holds_match shape journal ≡ true
unfolding lists_compute
matching = refl

adding : tallies_add_up shape journal ≡ true
unfolding lists_compute
adding = refl

limited : limits_kept shape journal ≡ true
unfolding lists_compute
limited = refl

scripted : scripts_kept shape scripts journal ≡ true
unfolding lists_compute
scripted = refl

scheduled : is_scheduled shape scripts journal ≡ true
unfolding lists_compute
scheduled = refl

answered : bodies_kept builtin shape journal ≡ true
unfolding lists_compute
answered = refl

tally_0 : tally_of 0 (K.Input 8 (int 2)) journal ≡ record { came = 2; out = 2; eaten = 0; lost = 0; over = 0 }
unfolding lists_compute
tally_0 = refl

kept_0 : kept_of (tally_of 0 (K.Input 8 (int 2)) journal) ≡ 0
unfolding lists_compute
kept_0 = refl

tally_1 : tally_of 1 (K.Function true (Some 1) 0 (int 0)) journal ≡ record { came = 6; out = 3; eaten = 3; lost = 0; over = 0 }
unfolding lists_compute
tally_1 = refl

kept_1 : kept_of (tally_of 1 (K.Function true (Some 1) 0 (int 0)) journal) ≡ 0
unfolding lists_compute
kept_1 = refl

tally_2 : tally_of 2 (K.Function true None 2 (int 0)) journal ≡ record { came = 6; out = 0; eaten = 3; lost = 3; over = 0 }
unfolding lists_compute
tally_2 = refl

kept_2 : kept_of (tally_of 2 (K.Function true None 2 (int 0)) journal) ≡ 0
unfolding lists_compute
kept_2 = refl

tally_3 : tally_of 3 (K.Queue None) journal ≡ record { came = 3; out = 0; eaten = 0; lost = 0; over = 0 }
unfolding lists_compute
tally_3 = refl

kept_3 : kept_of (tally_of 3 (K.Queue None) journal) ≡ 3
unfolding lists_compute
kept_3 = refl
