-- a key join takes the least tag that is at each port; a tuple that doesn't fit becomes the empty list
use Rattle.std.specs.Prelude.{◌≡◌, true, false, None, List, [], ◌∷◌, take as first_of}
use Rattle.std.proofs.Common.{refl}
use Rattle.flow_item.specs.declared.event.Event.{Event}
use Rattle.flow_item.specs.Values.{lists_compute}
use Rattle.flow_shape.specs.declared.Shape.{Shape}
use Rattle.flow_shape.specs.declared.Step.{Step}
use Rattle.flow_shape.specs.declared.Step.TheVariants as T
use Rattle.flow_shape.specs.declared.Kind.TheVariants as K
use Rattle.flow_item.specs.Events.{births}
use Rattle.flow_machine.specs.Machine.{is_run, may_follow, open_after, modes_agree}
use Rattle.flow_machine.specs.Reservations.{holds_match}
use Rattle.flow_machine.specs.Limits.{limits_kept}
use Rattle.flow_machine.specs.Ledger.{tally_of, kept_of, tallies_add_up}
use Rattle.flow_machine.specs.Scripts.{scripts_kept}
use Rattle.flow_machine.specs.Bodies.{bodies_kept}
use Rattle.flow_machine.specs.Schedule.{is_scheduled}
use Rattle.flow_vectors.specs.Builtin.{builtin}
use Rattle.flow_vectors.specs.Lines.{int, values, kept, ended_out, ended_lost, id, edge, put, leave, give, form, shut, idle}

abbrev shape : Shape
shape = record { nodes = ((K.KeyJoin 2) ∷ (K.QueueJoin 1) ∷ (K.Queue None) ∷ []); edges = (edge 0 0 2 0 ∷ edge 1 0 2 0 ∷ []) }

abbrev scripts : List (List Step)
scripts = (((T.Put 0 0 9 (int 1)) ∷ (T.Put 0 0 2 (int 2)) ∷ (T.Put 0 1 2 (int 3)) ∷ (T.Put 0 1 9 (int 4)) ∷ (T.Put 0 0 2 (int 5)) ∷ (T.Put 1 0 4 (values ((values ((values ((values ((values ((values ((values ((values ((values ((values ((values ((values ((values ((values ((values ((values ((values ((values ((values ((values ((values ((values ((values ((values ((values ((values ((values ((values ((values ((values ((values ((values []) ∷ [])) ∷ [])) ∷ [])) ∷ [])) ∷ [])) ∷ [])) ∷ [])) ∷ [])) ∷ [])) ∷ [])) ∷ [])) ∷ [])) ∷ [])) ∷ [])) ∷ [])) ∷ [])) ∷ [])) ∷ [])) ∷ [])) ∷ [])) ∷ [])) ∷ [])) ∷ [])) ∷ [])) ∷ [])) ∷ [])) ∷ [])) ∷ [])) ∷ [])) ∷ [])) ∷ []))) ∷ []) ∷ [])

abbrev journal : List Event
journal = ((put 0 0 0 9 0 kept (int 1)) ∷ (put 0 0 0 2 1 kept (int 2)) ∷ (put 0 0 1 2 2 kept (int 3)) ∷ (put 0 0 1 9 3 kept (int 4)) ∷ (put 0 0 0 2 4 kept (int 5)) ∷ (put 0 1 0 4 0 kept (values ((values ((values ((values ((values ((values ((values ((values ((values ((values ((values ((values ((values ((values ((values ((values ((values ((values ((values ((values ((values ((values ((values ((values ((values ((values ((values ((values ((values ((values ((values ((values []) ∷ [])) ∷ [])) ∷ [])) ∷ [])) ∷ [])) ∷ [])) ∷ [])) ∷ [])) ∷ [])) ∷ [])) ∷ [])) ∷ [])) ∷ [])) ∷ [])) ∷ [])) ∷ [])) ∷ [])) ∷ [])) ∷ [])) ∷ [])) ∷ [])) ∷ [])) ∷ [])) ∷ [])) ∷ [])) ∷ [])) ∷ [])) ∷ [])) ∷ [])) ∷ [])) ∷ []))) ∷ (leave 0) ∷ (form 0 5 (id 0 1 ∷ id 0 2 ∷ [])) ∷ (give 0 0 2 0 5 0 kept 2 (values ((int 2) ∷ (int 3) ∷ []))) ∷ (shut 0 5 ended_out) ∷ (form 0 6 (id 0 0 ∷ id 0 3 ∷ [])) ∷ (give 0 0 2 0 6 1 kept 9 (values ((int 1) ∷ (int 4) ∷ []))) ∷ (shut 0 6 ended_out) ∷ (idle 0) ∷ (form 1 1 (id 1 0 ∷ [])) ∷ (give 1 1 2 0 1 2 kept 4 (values [])) ∷ (shut 1 1 ended_out) ∷ (idle 1) ∷ (idle 2) ∷ [])

legal : is_run shape 1 1 journal ≡ true
unfolding lists_compute
legal = refl

bearing : births journal ≡ 12
unfolding lists_compute
bearing = refl

closed : open_after shape journal ≡ 0
unfolding lists_compute
closed = refl

agreeing : modes_agree shape journal ≡ true
unfolding lists_compute
agreeing = refl

matching : holds_match shape journal ≡ true
unfolding lists_compute
matching = refl

adding : tallies_add_up shape journal ≡ true
unfolding lists_compute
adding = refl

limited : limits_kept shape journal ≡ true
unfolding lists_compute
limited = refl

scripted : scripts_kept shape scripts journal ≡ true
unfolding lists_compute
scripted = refl

scheduled : is_scheduled shape scripts journal ≡ true
unfolding lists_compute
scheduled = refl

answered : bodies_kept builtin shape journal ≡ true
unfolding lists_compute
answered = refl

tally_0 : tally_of 0 (K.KeyJoin 2) journal ≡ record { came = 7; out = 2; eaten = 4; lost = 0; over = 0 }
unfolding lists_compute
tally_0 = refl

kept_0 : kept_of (tally_of 0 (K.KeyJoin 2) journal) ≡ 1
unfolding lists_compute
kept_0 = refl

tally_1 : tally_of 1 (K.QueueJoin 1) journal ≡ record { came = 2; out = 1; eaten = 1; lost = 0; over = 0 }
unfolding lists_compute
tally_1 = refl

kept_1 : kept_of (tally_of 1 (K.QueueJoin 1) journal) ≡ 0
unfolding lists_compute
kept_1 = refl

tally_2 : tally_of 2 (K.Queue None) journal ≡ record { came = 3; out = 0; eaten = 0; lost = 0; over = 0 }
unfolding lists_compute
tally_2 = refl

kept_2 : kept_of (tally_of 2 (K.Queue None) journal) ≡ 3
unfolding lists_compute
kept_2 = refl

-- the node isn't at rest: it has a form to make
early_0 : may_follow shape (first_of 5 journal) (idle 0) ≡ false
unfolding lists_compute
early_0 = refl

-- form with another no
wrong_1 : may_follow shape (first_of 7 journal) (form 0 6 (id 0 1 ∷ id 0 2 ∷ [])) ≡ false
unfolding lists_compute
wrong_1 = refl

-- form with another parts
wrong_2 : may_follow shape (first_of 7 journal) (form 0 5 (id 0 2 ∷ id 0 3 ∷ [])) ≡ false
unfolding lists_compute
wrong_2 = refl

-- the node isn't at rest: it has a shut to make
early_3 : may_follow shape (first_of 9 journal) (idle 0) ≡ false
unfolding lists_compute
early_3 = refl

-- shut with another item
wrong_4 : may_follow shape (first_of 9 journal) (shut 0 6 ended_out) ≡ false
unfolding lists_compute
wrong_4 = refl

-- shut with another ended
wrong_5 : may_follow shape (first_of 9 journal) (shut 0 5 ended_lost) ≡ false
unfolding lists_compute
wrong_5 = refl
