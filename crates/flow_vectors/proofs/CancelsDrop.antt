-- a cancel drops what waits or is ready at each kind of body node, and no body starts there
use Rattle.std.specs.Prelude.{◌≡◌, true, false, Some, None, List, [], ◌∷◌, take as first_of}
use Rattle.std.proofs.Common.{refl}
use Rattle.flow_item.specs.declared.event.Event.{Event}
use Rattle.flow_item.specs.Values.{lists_compute}
use Rattle.flow_shape.specs.declared.Shape.{Shape}
use Rattle.flow_shape.specs.declared.Step.{Step}
use Rattle.flow_shape.specs.declared.Step.TheVariants as T
use Rattle.flow_shape.specs.declared.Kind.TheVariants as K
use Rattle.flow_item.specs.Events.{births}
use Rattle.flow_machine.specs.Machine.{is_run, may_follow, open_after, modes_agree}
use Rattle.flow_machine.specs.Reservations.{holds_match}
use Rattle.flow_machine.specs.Limits.{limits_kept}
use Rattle.flow_machine.specs.Ledger.{tally_of, kept_of, tallies_add_up}
use Rattle.flow_machine.specs.Scripts.{scripts_kept}
use Rattle.flow_machine.specs.Bodies.{bodies_kept}
use Rattle.flow_machine.specs.Schedule.{is_scheduled}
use Rattle.flow_vectors.specs.Builtin.{builtin}
use Rattle.flow_vectors.specs.Lines.{int, kept, eaten, lost, edge, put, act, leave, cancel, idle}

abbrev shape : Shape
shape = record { nodes = ((K.Function false (Some 1) 0 (int 1)) ∷ (K.Multi false (Some 1) 7 (int 0) 2) ∷ (K.Async false (Some 1) (int 0)) ∷ (K.Continue 6 (int 0)) ∷ (K.Input 8 (int 9)) ∷ (K.Queue None) ∷ []); edges = (edge 0 0 5 0 ∷ edge 1 0 5 0 ∷ edge 2 0 5 0 ∷ edge 3 0 5 0 ∷ edge 4 0 5 0 ∷ []) }

abbrev scripts : List (List Step)
scripts = (((T.Put 0 0 0 (int 1)) ∷ (T.Put 0 0 1 (int 2)) ∷ (T.Put 1 0 0 (int 4)) ∷ (T.Put 1 0 1 (int 5)) ∷ (T.Put 2 0 0 (int 6)) ∷ (T.Put 2 0 1 (int 7)) ∷ (T.Put 3 0 0 (int 1)) ∷ (T.Cancel) ∷ (T.Put 0 0 2 (int 3)) ∷ (T.Put 3 0 1 (int 1)) ∷ (T.Act 4) ∷ []) ∷ [])

abbrev journal : List Event
journal = ((put 0 0 0 0 0 kept (int 1)) ∷ (put 0 0 0 1 1 kept (int 2)) ∷ (put 0 1 0 0 0 kept (int 4)) ∷ (put 0 1 0 1 1 kept (int 5)) ∷ (put 0 2 0 0 0 kept (int 6)) ∷ (put 0 2 0 1 1 kept (int 7)) ∷ (put 0 3 0 0 0 eaten (int 1)) ∷ (cancel 0 0 2) ∷ (cancel 0 1 2) ∷ (cancel 0 2 2) ∷ (cancel 0 3 0) ∷ (cancel 0 4 0) ∷ (put 0 0 0 2 2 lost (int 3)) ∷ (put 0 3 0 1 1 lost (int 1)) ∷ (act 0 4) ∷ (leave 0) ∷ (idle 0) ∷ (idle 1) ∷ (idle 2) ∷ (idle 3) ∷ (idle 4) ∷ [])

legal : is_run shape 1 1 journal ≡ true
unfolding lists_compute
legal = refl

bearing : births journal ≡ 9
unfolding lists_compute
bearing = refl

closed : open_after shape journal ≡ 0
unfolding lists_compute
closed = refl

agreeing : modes_agree shape journal ≡ true
unfolding lists_compute
agreeing = refl

matching : holds_match shape journal ≡ true
unfolding lists_compute
matching = refl

adding : tallies_add_up shape journal ≡ true
unfolding lists_compute
adding = refl

limited : limits_kept shape journal ≡ true
unfolding lists_compute
limited = refl

scripted : scripts_kept shape scripts journal ≡ true
unfolding lists_compute
scripted = refl

scheduled : is_scheduled shape scripts journal ≡ true
unfolding lists_compute
scheduled = refl

answered : bodies_kept builtin shape journal ≡ true
unfolding lists_compute
answered = refl

tally_0 : tally_of 0 (K.Function false (Some 1) 0 (int 1)) journal ≡ record { came = 3; out = 0; eaten = 0; lost = 3; over = 0 }
unfolding lists_compute
tally_0 = refl

kept_0 : kept_of (tally_of 0 (K.Function false (Some 1) 0 (int 1)) journal) ≡ 0
unfolding lists_compute
kept_0 = refl

tally_1 : tally_of 1 (K.Multi false (Some 1) 7 (int 0) 2) journal ≡ record { came = 2; out = 0; eaten = 0; lost = 2; over = 0 }
unfolding lists_compute
tally_1 = refl

kept_1 : kept_of (tally_of 1 (K.Multi false (Some 1) 7 (int 0) 2) journal) ≡ 0
unfolding lists_compute
kept_1 = refl

tally_2 : tally_of 2 (K.Async false (Some 1) (int 0)) journal ≡ record { came = 2; out = 0; eaten = 0; lost = 2; over = 0 }
unfolding lists_compute
tally_2 = refl

kept_2 : kept_of (tally_of 2 (K.Async false (Some 1) (int 0)) journal) ≡ 0
unfolding lists_compute
kept_2 = refl

tally_3 : tally_of 3 (K.Continue 6 (int 0)) journal ≡ record { came = 2; out = 0; eaten = 1; lost = 1; over = 0 }
unfolding lists_compute
tally_3 = refl

kept_3 : kept_of (tally_of 3 (K.Continue 6 (int 0)) journal) ≡ 0
unfolding lists_compute
kept_3 = refl

tally_4 : tally_of 4 (K.Input 8 (int 9)) journal ≡ record { came = 0; out = 0; eaten = 0; lost = 0; over = 0 }
unfolding lists_compute
tally_4 = refl

kept_4 : kept_of (tally_of 4 (K.Input 8 (int 9)) journal) ≡ 0
unfolding lists_compute
kept_4 = refl

tally_5 : tally_of 5 (K.Queue None) journal ≡ record { came = 0; out = 0; eaten = 0; lost = 0; over = 0 }
unfolding lists_compute
tally_5 = refl

kept_5 : kept_of (tally_of 5 (K.Queue None) journal) ≡ 0
unfolding lists_compute
kept_5 = refl

-- cancel with another dropped
wrong_0 : may_follow shape (first_of 7 journal) (cancel 0 0 3) ≡ false
unfolding lists_compute
wrong_0 = refl
