-- a reserving join holds, gives up and frees, and then takes with a kept value
use Rattle.std.specs.Prelude.{◌≡◌, true, None, List, [], ◌∷◌}
use Rattle.std.proofs.Common.{refl}
use Rattle.flow_item.specs.declared.event.Event.{Event}
use Rattle.flow_item.specs.Values.{lists_compute}
use Rattle.flow_shape.specs.declared.Shape.{Shape}
use Rattle.flow_shape.specs.declared.Step.{Step}
use Rattle.flow_shape.specs.declared.Step.TheVariants as T
use Rattle.flow_shape.specs.declared.Kind.TheVariants as K
use Rattle.flow_item.specs.Events.{births}
use Rattle.flow_machine.specs.Machine.{is_run, open_after, modes_agree}
use Rattle.flow_machine.specs.Reservations.{holds_match}
use Rattle.flow_machine.specs.Limits.{limits_kept}
use Rattle.flow_machine.specs.Ledger.{tally_of, kept_of, tallies_add_up}
use Rattle.flow_machine.specs.Scripts.{scripts_kept}
use Rattle.flow_machine.specs.Bodies.{bodies_kept}
use Rattle.flow_machine.specs.Schedule.{is_scheduled}
use Rattle.flow_vectors.specs.Builtin.{builtin}
use Rattle.flow_vectors.specs.Lines.{int, values, kept, ended_won, id, edge, put, leave, give, refuse, none, hold, take, form, shut, idle}

abbrev shape : Shape
shape = record { nodes = ((K.Queue None) ∷ (K.Overwrite) ∷ (K.HoldJoin 2) ∷ (K.Queue None) ∷ []); edges = (edge 0 0 2 0 ∷ edge 1 0 2 1 ∷ edge 2 0 3 0 ∷ []) }

abbrev scripts : List (List Step)
scripts = (((T.Put 0 0 0 (int 1)) ∷ (T.Wait) ∷ (T.Put 1 0 0 (int 10)) ∷ (T.Put 0 0 1 (int 2)) ∷ []) ∷ [])

abbrev journal : List Event
journal = ((put 0 0 0 0 0 kept (int 1)) ∷ (refuse 0 0 2 0 0) ∷ (idle 0) ∷ (idle 2) ∷ (put 0 1 0 0 0 kept (int 10)) ∷ (put 0 0 0 1 1 kept (int 2)) ∷ (leave 0) ∷ (idle 0) ∷ (refuse 1 1 2 1 0) ∷ (idle 1) ∷ (hold 0 0 2 0 0 0 0 (int 1)) ∷ (idle 0) ∷ (hold 1 1 2 1 0 0 0 (int 10)) ∷ (idle 1) ∷ (form 2 0 (id 0 0 ∷ id 1 0 ∷ [])) ∷ (give 2 2 3 0 0 0 kept 0 (values ((int 1) ∷ (int 10) ∷ []))) ∷ (shut 2 0 ended_won) ∷ (take 0 0 2 0 0) ∷ (idle 0) ∷ (take 1 1 2 1 0) ∷ (idle 1) ∷ (hold 0 0 2 0 1 0 1 (int 2)) ∷ (idle 0) ∷ (hold 1 1 2 1 0 0 0 (int 10)) ∷ (idle 1) ∷ (form 2 1 (id 0 1 ∷ id 1 0 ∷ [])) ∷ (give 2 2 3 0 1 1 kept 1 (values ((int 2) ∷ (int 10) ∷ []))) ∷ (shut 2 1 ended_won) ∷ (take 0 0 2 0 1) ∷ (idle 0) ∷ (take 1 1 2 1 0) ∷ (idle 1) ∷ (none 0 0 2 0) ∷ (idle 0) ∷ (idle 2) ∷ (idle 3) ∷ [])

legal : is_run shape 1 1 journal ≡ true
unfolding lists_compute
legal = refl

bearing : births journal ≡ 7
unfolding lists_compute
bearing = refl

closed : open_after shape journal ≡ 0
unfolding lists_compute
closed = refl

agreeing : modes_agree shape journal ≡ true
unfolding lists_compute
agreeing = refl

matching : holds_match shape journal ≡ true
unfolding lists_compute
matching = refl

adding : tallies_add_up shape journal ≡ true
unfolding lists_compute
adding = refl

limited : limits_kept shape journal ≡ true
unfolding lists_compute
limited = refl

scripted : scripts_kept shape scripts journal ≡ true
unfolding lists_compute
scripted = refl

scheduled : is_scheduled shape scripts journal ≡ true
unfolding lists_compute
scheduled = refl

answered : bodies_kept builtin shape journal ≡ true
unfolding lists_compute
answered = refl

tally_0 : tally_of 0 (K.Queue None) journal ≡ record { came = 2; out = 2; eaten = 0; lost = 0; over = 0 }
unfolding lists_compute
tally_0 = refl

kept_0 : kept_of (tally_of 0 (K.Queue None) journal) ≡ 0
unfolding lists_compute
kept_0 = refl

tally_1 : tally_of 1 (K.Overwrite) journal ≡ record { came = 1; out = 0; eaten = 0; lost = 0; over = 0 }
unfolding lists_compute
tally_1 = refl

kept_1 : kept_of (tally_of 1 (K.Overwrite) journal) ≡ 1
unfolding lists_compute
kept_1 = refl

tally_2 : tally_of 2 (K.HoldJoin 2) journal ≡ record { came = 2; out = 2; eaten = 0; lost = 0; over = 0 }
unfolding lists_compute
tally_2 = refl

kept_2 : kept_of (tally_of 2 (K.HoldJoin 2) journal) ≡ 0
unfolding lists_compute
kept_2 = refl

tally_3 : tally_of 3 (K.Queue None) journal ≡ record { came = 2; out = 0; eaten = 0; lost = 0; over = 0 }
unfolding lists_compute
tally_3 = refl

kept_3 : kept_of (tally_of 3 (K.Queue None) journal) ≡ 2
unfolding lists_compute
kept_3 = refl
