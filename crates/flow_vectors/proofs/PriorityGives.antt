-- whole numbers go by value, then texts and lists, ties oldest first
use Rattle.std.specs.Prelude.{◌≡◌, true, None, List, [], ◌∷◌}
use Rattle.std.proofs.Common.{refl}
use Rattle.flow_item.specs.declared.event.Event.{Event}
use Rattle.flow_item.specs.Values.{lists_compute}
use Rattle.flow_shape.specs.declared.Shape.{Shape}
use Rattle.flow_shape.specs.declared.Step.{Step}
use Rattle.flow_shape.specs.declared.Step.TheVariants as T
use Rattle.flow_shape.specs.declared.Kind.TheVariants as K
use Rattle.flow_item.specs.Events.{births}
use Rattle.flow_machine.specs.Machine.{is_run, open_after, modes_agree}
use Rattle.flow_machine.specs.Reservations.{holds_match}
use Rattle.flow_machine.specs.Limits.{limits_kept}
use Rattle.flow_machine.specs.Ledger.{tally_of, kept_of, tallies_add_up}
use Rattle.flow_machine.specs.Scripts.{scripts_kept}
use Rattle.flow_machine.specs.Bodies.{bodies_kept}
use Rattle.flow_machine.specs.Schedule.{is_scheduled}
use Rattle.flow_vectors.specs.Builtin.{builtin}
use Rattle.flow_vectors.specs.Lines.{int, below, text, values, kept, edge, put, leave, give, idle}

abbrev shape : Shape
shape = record { nodes = ((K.Priority) ∷ (K.Queue None) ∷ []); edges = (edge 0 0 1 0 ∷ []) }

abbrev scripts : List (List Step)
scripts = (((T.Put 0 0 0 (int 3)) ∷ (T.Put 0 0 1 (text (122 ∷ []))) ∷ (T.Put 0 0 2 (int 3)) ∷ (T.Put 0 0 3 (below 8)) ∷ (T.Put 0 0 4 (int 7)) ∷ (T.Put 0 0 5 (values ((int 1) ∷ []))) ∷ []) ∷ [])

abbrev journal : List Event
journal = ((put 0 0 0 0 0 kept (int 3)) ∷ (put 0 0 0 1 1 kept (text (122 ∷ []))) ∷ (put 0 0 0 2 2 kept (int 3)) ∷ (put 0 0 0 3 3 kept (below 8)) ∷ (put 0 0 0 4 4 kept (int 7)) ∷ (put 0 0 0 5 5 kept (values ((int 1) ∷ []))) ∷ (leave 0) ∷ (give 0 0 1 0 4 0 kept 4 (int 7)) ∷ (give 0 0 1 0 0 1 kept 0 (int 3)) ∷ (give 0 0 1 0 2 2 kept 2 (int 3)) ∷ (give 0 0 1 0 3 3 kept 3 (below 8)) ∷ (give 0 0 1 0 1 4 kept 1 (text (122 ∷ []))) ∷ (give 0 0 1 0 5 5 kept 5 (values ((int 1) ∷ []))) ∷ (idle 0) ∷ (idle 1) ∷ [])

legal : is_run shape 1 1 journal ≡ true
unfolding lists_compute
legal = refl

bearing : births journal ≡ 12
unfolding lists_compute
bearing = refl

closed : open_after shape journal ≡ 0
unfolding lists_compute
closed = refl

agreeing : modes_agree shape journal ≡ true
unfolding lists_compute
agreeing = refl

matching : holds_match shape journal ≡ true
unfolding lists_compute
matching = refl

adding : tallies_add_up shape journal ≡ true
unfolding lists_compute
adding = refl

limited : limits_kept shape journal ≡ true
unfolding lists_compute
limited = refl

scripted : scripts_kept shape scripts journal ≡ true
unfolding lists_compute
scripted = refl

scheduled : is_scheduled shape scripts journal ≡ true
unfolding lists_compute
scheduled = refl

answered : bodies_kept builtin shape journal ≡ true
unfolding lists_compute
answered = refl

tally_0 : tally_of 0 (K.Priority) journal ≡ record { came = 6; out = 6; eaten = 0; lost = 0; over = 0 }
unfolding lists_compute
tally_0 = refl

kept_0 : kept_of (tally_of 0 (K.Priority) journal) ≡ 0
unfolding lists_compute
kept_0 = refl

tally_1 : tally_of 1 (K.Queue None) journal ≡ record { came = 6; out = 0; eaten = 0; lost = 0; over = 0 }
unfolding lists_compute
tally_1 = refl

kept_1 : kept_of (tally_of 1 (K.Queue None) journal) ≡ 6
unfolding lists_compute
kept_1 = refl
