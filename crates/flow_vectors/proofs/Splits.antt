-- a list is split over ports, a text and a number go to the first; a broadcast reaches a continue node that needs two
use Rattle.std.specs.Prelude.{◌≡◌, true, false, None, List, [], ◌∷◌, take as first_of}
use Rattle.std.proofs.Common.{refl}
use Rattle.flow_item.specs.declared.event.Event.{Event}
use Rattle.flow_item.specs.Values.{lists_compute}
use Rattle.flow_shape.specs.declared.Shape.{Shape}
use Rattle.flow_shape.specs.declared.Step.{Step}
use Rattle.flow_shape.specs.declared.Step.TheVariants as T
use Rattle.flow_shape.specs.declared.Kind.TheVariants as K
use Rattle.flow_item.specs.Events.{births}
use Rattle.flow_machine.specs.Machine.{is_run, may_follow, open_after, modes_agree}
use Rattle.flow_machine.specs.Reservations.{holds_match}
use Rattle.flow_machine.specs.Limits.{limits_kept}
use Rattle.flow_machine.specs.Ledger.{tally_of, kept_of, tallies_add_up}
use Rattle.flow_machine.specs.Scripts.{scripts_kept}
use Rattle.flow_machine.specs.Bodies.{bodies_kept}
use Rattle.flow_machine.specs.Schedule.{is_scheduled}
use Rattle.flow_vectors.specs.Builtin.{builtin}
use Rattle.flow_vectors.specs.Lines.{int, text, values, kept, eaten, ended_out, ended_lost, msg, edge, put, leave, give, start, end, split, shut, idle}

abbrev shape : Shape
shape = record { nodes = ((K.Split 2) ∷ (K.Broadcast) ∷ (K.Continue 0 (int 5)) ∷ (K.Queue None) ∷ (K.Queue None) ∷ []); edges = (edge 0 0 3 0 ∷ edge 0 1 4 0 ∷ edge 0 0 1 0 ∷ edge 1 0 2 0 ∷ edge 3 0 2 0 ∷ edge 2 0 4 0 ∷ []) }

abbrev scripts : List (List Step)
scripts = (((T.Put 0 0 0 (values ((int 1) ∷ (text (117 ∷ [])) ∷ (int 3) ∷ []))) ∷ (T.Put 0 0 1 (text (118 ∷ []))) ∷ (T.Put 0 0 2 (int 4)) ∷ []) ∷ [])

abbrev journal : List Event
journal = ((put 0 0 0 0 0 kept (values ((int 1) ∷ (text (117 ∷ [])) ∷ (int 3) ∷ []))) ∷ (put 0 0 0 1 1 kept (text (118 ∷ []))) ∷ (put 0 0 0 2 2 kept (int 4)) ∷ (leave 0) ∷ (split 0 0 3 (msg 0 0 (int 1) ∷ msg 1 0 (text (117 ∷ [])) ∷ msg 2 0 (int 3) ∷ [])) ∷ (give 0 0 3 0 3 0 kept 0 (int 1)) ∷ (give 2 0 1 0 3 0 kept 0 (int 1)) ∷ (shut 0 3 ended_out) ∷ (give 1 0 4 0 4 0 kept 0 (text (117 ∷ []))) ∷ (shut 0 4 ended_out) ∷ (shut 0 5 ended_lost) ∷ (split 0 1 6 (msg 0 1 (text (118 ∷ [])) ∷ [])) ∷ (give 0 0 3 0 6 1 kept 1 (text (118 ∷ []))) ∷ (give 2 0 1 0 6 1 kept 1 (text (118 ∷ []))) ∷ (shut 0 6 ended_out) ∷ (split 0 2 7 (msg 0 2 (int 4) ∷ [])) ∷ (give 0 0 3 0 7 2 kept 2 (int 4)) ∷ (give 2 0 1 0 7 2 kept 2 (int 4)) ∷ (shut 0 7 ended_out) ∷ (idle 0) ∷ (give 3 1 2 0 0 0 eaten 0 (int 1)) ∷ (shut 1 0 ended_out) ∷ (give 3 1 2 0 1 1 eaten 1 (text (118 ∷ []))) ∷ (shut 1 1 ended_out) ∷ (give 3 1 2 0 2 2 eaten 2 (int 4)) ∷ (shut 1 2 ended_out) ∷ (idle 1) ∷ (start 0 2 0) ∷ (end 0 2 0 3 (msg 0 0 (int 5) ∷ [])) ∷ (give 5 2 4 0 3 1 kept 0 (int 5)) ∷ (shut 2 3 ended_out) ∷ (idle 2) ∷ (give 4 3 2 0 0 4 eaten 0 (int 1)) ∷ (start 0 2 1) ∷ (end 0 2 1 5 (msg 0 1 (int 6) ∷ [])) ∷ (give 5 2 4 0 5 2 kept 1 (int 6)) ∷ (shut 2 5 ended_out) ∷ (idle 2) ∷ (give 4 3 2 0 1 6 eaten 1 (text (118 ∷ []))) ∷ (idle 2) ∷ (give 4 3 2 0 2 7 eaten 2 (int 4)) ∷ (start 0 2 2) ∷ (end 0 2 2 8 (msg 0 2 (int 7) ∷ [])) ∷ (give 5 2 4 0 8 3 kept 2 (int 7)) ∷ (shut 2 8 ended_out) ∷ (idle 2) ∷ (idle 3) ∷ (idle 4) ∷ [])

legal : is_run shape 1 1 journal ≡ true
unfolding lists_compute
legal = refl

bearing : births journal ≡ 27
unfolding lists_compute
bearing = refl

closed : open_after shape journal ≡ 0
unfolding lists_compute
closed = refl

agreeing : modes_agree shape journal ≡ true
unfolding lists_compute
agreeing = refl

matching : holds_match shape journal ≡ true
unfolding lists_compute
matching = refl

adding : tallies_add_up shape journal ≡ true
unfolding lists_compute
adding = refl

limited : limits_kept shape journal ≡ true
unfolding lists_compute
limited = refl

scripted : scripts_kept shape scripts journal ≡ true
unfolding lists_compute
scripted = refl

scheduled : is_scheduled shape scripts journal ≡ true
unfolding lists_compute
scheduled = refl

answered : bodies_kept builtin shape journal ≡ true
unfolding lists_compute
answered = refl

tally_0 : tally_of 0 (K.Split 2) journal ≡ record { came = 8; out = 4; eaten = 3; lost = 1; over = 0 }
unfolding lists_compute
tally_0 = refl

kept_0 : kept_of (tally_of 0 (K.Split 2) journal) ≡ 0
unfolding lists_compute
kept_0 = refl

tally_1 : tally_of 1 (K.Broadcast) journal ≡ record { came = 3; out = 3; eaten = 0; lost = 0; over = 0 }
unfolding lists_compute
tally_1 = refl

kept_1 : kept_of (tally_of 1 (K.Broadcast) journal) ≡ 0
unfolding lists_compute
kept_1 = refl

tally_2 : tally_of 2 (K.Continue 0 (int 5)) journal ≡ record { came = 9; out = 3; eaten = 6; lost = 0; over = 0 }
unfolding lists_compute
tally_2 = refl

kept_2 : kept_of (tally_of 2 (K.Continue 0 (int 5)) journal) ≡ 0
unfolding lists_compute
kept_2 = refl

tally_3 : tally_of 3 (K.Queue None) journal ≡ record { came = 3; out = 3; eaten = 0; lost = 0; over = 0 }
unfolding lists_compute
tally_3 = refl

kept_3 : kept_of (tally_of 3 (K.Queue None) journal) ≡ 0
unfolding lists_compute
kept_3 = refl

tally_4 : tally_of 4 (K.Queue None) journal ≡ record { came = 4; out = 0; eaten = 0; lost = 0; over = 0 }
unfolding lists_compute
tally_4 = refl

kept_4 : kept_of (tally_of 4 (K.Queue None) journal) ≡ 4
unfolding lists_compute
kept_4 = refl

-- the node isn't at rest: it has a split to make
early_0 : may_follow shape (first_of 3 journal) (idle 0) ≡ false
unfolding lists_compute
early_0 = refl

-- split with another item
wrong_1 : may_follow shape (first_of 4 journal) (split 0 1 3 (msg 0 0 (int 1) ∷ msg 1 0 (text (117 ∷ [])) ∷ msg 2 0 (int 3) ∷ [])) ≡ false
unfolding lists_compute
wrong_1 = refl

-- split with another first
wrong_2 : may_follow shape (first_of 4 journal) (split 0 0 4 (msg 0 0 (int 1) ∷ msg 1 0 (text (117 ∷ [])) ∷ msg 2 0 (int 3) ∷ [])) ≡ false
unfolding lists_compute
wrong_2 = refl

-- split with another outs
wrong_3 : may_follow shape (first_of 4 journal) (split 0 0 3 (msg 0 0 (int 1) ∷ msg 1 0 (text (117 ∷ [])) ∷ [])) ≡ false
unfolding lists_compute
wrong_3 = refl
