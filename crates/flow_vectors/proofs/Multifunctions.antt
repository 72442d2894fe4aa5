-- messages go by their ports, and one to a port without an edge is lost; an async node brings its ticket back
use Rattle.std.specs.Prelude.{◌≡◌, true, false, None, List, [], ◌∷◌, take as first_of}
use Rattle.std.proofs.Common.{refl}
use Rattle.flow_item.specs.declared.event.Event.{Event}
use Rattle.flow_item.specs.Values.{lists_compute}
use Rattle.flow_shape.specs.declared.Shape.{Shape}
use Rattle.flow_shape.specs.declared.Step.{Step}
use Rattle.flow_shape.specs.declared.Step.TheVariants as T
use Rattle.flow_shape.specs.declared.Kind.TheVariants as K
use Rattle.flow_item.specs.Events.{births}
use Rattle.flow_machine.specs.Machine.{is_run, may_follow, open_after, modes_agree}
use Rattle.flow_machine.specs.Reservations.{holds_match}
use Rattle.flow_machine.specs.Limits.{limits_kept}
use Rattle.flow_machine.specs.Ledger.{tally_of, kept_of, tallies_add_up}
use Rattle.flow_machine.specs.Scripts.{scripts_kept}
use Rattle.flow_machine.specs.Bodies.{bodies_kept}
use Rattle.flow_machine.specs.Schedule.{is_scheduled}
use Rattle.flow_vectors.specs.Builtin.{builtin}
use Rattle.flow_vectors.specs.Lines.{int, text, kept, ended_out, ended_lost, msg, edge, put, leave, give, start, end, back, shut, idle}

abbrev shape : Shape
shape = record { nodes = ((K.Multi false None 7 (int 0) 2) ∷ (K.Async false None (int 0)) ∷ (K.Queue None) ∷ []); edges = (edge 0 0 1 0 ∷ edge 1 0 2 0 ∷ []) }

abbrev scripts : List (List Step)
scripts = (((T.Put 0 0 0 (int 4)) ∷ (T.Put 0 0 1 (int 7)) ∷ (T.Put 0 0 2 (text (116 ∷ []))) ∷ []) ∷ [])

abbrev journal : List Event
journal = ((put 0 0 0 0 0 kept (int 4)) ∷ (put 0 0 0 1 1 kept (int 7)) ∷ (put 0 0 0 2 2 kept (text (116 ∷ []))) ∷ (leave 0) ∷ (start 0 0 0) ∷ (end 0 0 0 3 (msg 0 0 (int 4) ∷ [])) ∷ (give 0 0 1 0 3 0 kept 0 (int 4)) ∷ (shut 0 3 ended_out) ∷ (start 0 0 1) ∷ (end 0 0 1 4 (msg 1 1 (int 7) ∷ [])) ∷ (shut 0 4 ended_lost) ∷ (start 0 0 2) ∷ (end 0 0 2 5 []) ∷ (idle 0) ∷ (start 0 1 0) ∷ (end 0 1 0 1 []) ∷ (idle 1) ∷ (back 0 1 0 1 (msg 0 0 (int 4) ∷ [])) ∷ (give 1 1 2 0 1 0 kept 0 (int 4)) ∷ (shut 1 1 ended_out) ∷ (idle 1) ∷ (idle 2) ∷ [])

legal : is_run shape 1 1 journal ≡ true
unfolding lists_compute
legal = refl

bearing : births journal ≡ 8
unfolding lists_compute
bearing = refl

closed : open_after shape journal ≡ 0
unfolding lists_compute
closed = refl

agreeing : modes_agree shape journal ≡ true
unfolding lists_compute
agreeing = refl

matching : holds_match shape journal ≡ true
unfolding lists_compute
matching = refl

adding : tallies_add_up shape journal ≡ true
unfolding lists_compute
adding = refl

limited : limits_kept shape journal ≡ true
unfolding lists_compute
limited = refl

scripted : scripts_kept shape scripts journal ≡ true
unfolding lists_compute
scripted = refl

scheduled : is_scheduled shape scripts journal ≡ true
unfolding lists_compute
scheduled = refl

answered : bodies_kept builtin shape journal ≡ true
unfolding lists_compute
answered = refl

tally_0 : tally_of 0 (K.Multi false None 7 (int 0) 2) journal ≡ record { came = 5; out = 1; eaten = 3; lost = 1; over = 0 }
unfolding lists_compute
tally_0 = refl

kept_0 : kept_of (tally_of 0 (K.Multi false None 7 (int 0) 2) journal) ≡ 0
unfolding lists_compute
kept_0 = refl

tally_1 : tally_of 1 (K.Async false None (int 0)) journal ≡ record { came = 2; out = 1; eaten = 1; lost = 0; over = 0 }
unfolding lists_compute
tally_1 = refl

kept_1 : kept_of (tally_of 1 (K.Async false None (int 0)) journal) ≡ 0
unfolding lists_compute
kept_1 = refl

tally_2 : tally_of 2 (K.Queue None) journal ≡ record { came = 1; out = 0; eaten = 0; lost = 0; over = 0 }
unfolding lists_compute
tally_2 = refl

kept_2 : kept_of (tally_of 2 (K.Queue None) journal) ≡ 1
unfolding lists_compute
kept_2 = refl

-- back with another item
wrong_0 : may_follow shape (first_of 17 journal) (back 0 1 1 1 (msg 0 0 (int 4) ∷ [])) ≡ false
unfolding lists_compute
wrong_0 = refl

-- back with another first
wrong_1 : may_follow shape (first_of 17 journal) (back 0 1 0 2 (msg 0 0 (int 4) ∷ [])) ≡ false
unfolding lists_compute
wrong_1 = refl
