-- a count falls by values, below none is kept as early, and texts count as one
use Rattle.std.specs.Prelude.{◌≡◌, true, None, List, [], ◌∷◌}
use Rattle.std.proofs.Common.{refl}
use Rattle.flow_item.specs.declared.event.Event.{Event}
use Rattle.flow_item.specs.Values.{lists_compute}
use Rattle.flow_shape.specs.declared.Shape.{Shape}
use Rattle.flow_shape.specs.declared.Step.{Step}
use Rattle.flow_shape.specs.declared.Step.TheVariants as T
use Rattle.flow_shape.specs.declared.Kind.TheVariants as K
use Rattle.flow_item.specs.Events.{births}
use Rattle.flow_machine.specs.Machine.{is_run, open_after, modes_agree}
use Rattle.flow_machine.specs.Reservations.{holds_match}
use Rattle.flow_machine.specs.Limits.{limits_kept}
use Rattle.flow_machine.specs.Ledger.{tally_of, kept_of, tallies_add_up}
use Rattle.flow_machine.specs.Scripts.{scripts_kept}
use Rattle.flow_machine.specs.Bodies.{bodies_kept}
use Rattle.flow_machine.specs.Schedule.{is_scheduled}
use Rattle.flow_vectors.specs.Builtin.{builtin}
use Rattle.flow_vectors.specs.Lines.{int, below, text, kept, eaten, ended_won, edge, put, leave, give, hold, take, shut, idle}

abbrev shape : Shape
shape = record { nodes = ((K.Queue None) ∷ (K.Limiter 2 true) ∷ (K.Queue None) ∷ []); edges = (edge 2 0 1 0 ∷ edge 1 0 0 0 ∷ edge 0 0 1 1 ∷ []) }

abbrev scripts : List (List Step)
scripts = (((T.Put 1 1 0 (below 1)) ∷ (T.Put 1 1 1 (int 1)) ∷ (T.Put 1 1 2 (text (97 ∷ []))) ∷ (T.Put 2 0 0 (int 3)) ∷ (T.Put 2 0 1 (int 0)) ∷ (T.Put 2 0 2 (below 4)) ∷ []) ∷ [])

abbrev journal : List Event
journal = ((put 0 1 1 0 0 eaten (below 1)) ∷ (put 0 1 1 1 1 eaten (int 1)) ∷ (put 0 1 1 2 2 eaten (text (97 ∷ []))) ∷ (put 0 2 0 0 0 kept (int 3)) ∷ (put 0 2 0 1 1 kept (int 0)) ∷ (put 0 2 0 2 2 kept (below 4)) ∷ (leave 0) ∷ (idle 1) ∷ (hold 0 2 1 0 0 3 0 (int 3)) ∷ (give 1 1 0 0 3 0 kept 0 (int 3)) ∷ (give 2 0 1 1 0 4 eaten 0 (int 3)) ∷ (idle 0) ∷ (shut 1 3 ended_won) ∷ (take 0 2 1 0 0) ∷ (hold 0 2 1 0 1 5 1 (int 0)) ∷ (give 1 1 0 0 5 1 kept 1 (int 0)) ∷ (give 2 0 1 1 1 6 eaten 1 (int 0)) ∷ (idle 0) ∷ (shut 1 5 ended_won) ∷ (take 0 2 1 0 1) ∷ (hold 0 2 1 0 2 7 2 (below 4)) ∷ (give 1 1 0 0 7 2 kept 2 (below 4)) ∷ (give 2 0 1 1 2 8 eaten 2 (below 4)) ∷ (idle 0) ∷ (shut 1 7 ended_won) ∷ (take 0 2 1 0 2) ∷ (idle 1) ∷ (idle 2) ∷ [])

legal : is_run shape 1 1 journal ≡ true
unfolding lists_compute
legal = refl

bearing : births journal ≡ 15
unfolding lists_compute
bearing = refl

closed : open_after shape journal ≡ 0
unfolding lists_compute
closed = refl

agreeing : modes_agree shape journal ≡ true
unfolding lists_compute
agreeing = refl

matching : holds_match shape journal ≡ true
unfolding lists_compute
matching = refl

adding : tallies_add_up shape journal ≡ true
unfolding lists_compute
adding = refl

limited : limits_kept shape journal ≡ true
unfolding lists_compute
limited = refl

scripted : scripts_kept shape scripts journal ≡ true
unfolding lists_compute
scripted = refl

scheduled : is_scheduled shape scripts journal ≡ true
unfolding lists_compute
scheduled = refl

answered : bodies_kept builtin shape journal ≡ true
unfolding lists_compute
answered = refl

tally_0 : tally_of 0 (K.Queue None) journal ≡ record { came = 3; out = 3; eaten = 0; lost = 0; over = 0 }
unfolding lists_compute
tally_0 = refl

kept_0 : kept_of (tally_of 0 (K.Queue None) journal) ≡ 0
unfolding lists_compute
kept_0 = refl

tally_1 : tally_of 1 (K.Limiter 2 true) journal ≡ record { came = 9; out = 3; eaten = 6; lost = 0; over = 0 }
unfolding lists_compute
tally_1 = refl

kept_1 : kept_of (tally_of 1 (K.Limiter 2 true) journal) ≡ 0
unfolding lists_compute
kept_1 = refl

tally_2 : tally_of 2 (K.Queue None) journal ≡ record { came = 3; out = 3; eaten = 0; lost = 0; over = 0 }
unfolding lists_compute
tally_2 = refl

kept_2 : kept_of (tally_of 2 (K.Queue None) journal) ≡ 0
unfolding lists_compute
kept_2 = refl
