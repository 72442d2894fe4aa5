-- what a function, an input and a queueing join offer is held, taken and freed
use Rattle.std.specs.Prelude.{◌≡◌, true, false, None, List, [], ◌∷◌, take as first_of}
use Rattle.std.proofs.Common.{refl}
use Rattle.flow_item.specs.declared.event.Event.{Event}
use Rattle.flow_item.specs.Values.{lists_compute}
use Rattle.flow_shape.specs.declared.Shape.{Shape}
use Rattle.flow_shape.specs.declared.Step.{Step}
use Rattle.flow_shape.specs.declared.Step.TheVariants as T
use Rattle.flow_shape.specs.declared.Kind.TheVariants as K
use Rattle.flow_item.specs.Events.{births}
use Rattle.flow_machine.specs.Machine.{is_run, may_follow, open_after, modes_agree}
use Rattle.flow_machine.specs.Reservations.{holds_match}
use Rattle.flow_machine.specs.Limits.{limits_kept}
use Rattle.flow_machine.specs.Ledger.{tally_of, kept_of, tallies_add_up}
use Rattle.flow_machine.specs.Scripts.{scripts_kept}
use Rattle.flow_machine.specs.Bodies.{bodies_kept}
use Rattle.flow_machine.specs.Schedule.{is_scheduled}
use Rattle.flow_vectors.specs.Builtin.{builtin}
use Rattle.flow_vectors.specs.Lines.{int, kept, ended_out, ended_won, ended_failed, msg, edge, put, act, leave, give, refuse, none, hold, take, free, start, end, shut, idle}

abbrev shape : Shape
shape = record { nodes = ((K.Function false None 0 (int 1)) ∷ (K.Input 8 (int 1)) ∷ (K.Limiter 3 false) ∷ (K.Queue None) ∷ (K.Limiter 1 false) ∷ (K.WriteOnce) ∷ []); edges = (edge 0 0 2 0 ∷ edge 1 0 2 0 ∷ edge 2 0 3 0 ∷ edge 0 0 4 0 ∷ edge 4 0 5 0 ∷ []) }

abbrev scripts : List (List Step)
scripts = (((T.Put 5 0 0 (int 9)) ∷ (T.Put 0 0 0 (int 1)) ∷ (T.Act 1) ∷ []) ∷ [])

abbrev journal : List Event
journal = ((put 0 5 0 0 0 kept (int 9)) ∷ (put 0 0 0 0 0 kept (int 1)) ∷ (act 0 1) ∷ (leave 0) ∷ (start 0 0 0) ∷ (end 0 0 0 1 (msg 0 0 (int 2) ∷ [])) ∷ (hold 0 0 2 0 1 0 0 (int 2)) ∷ (hold 3 0 4 0 1 0 0 (int 2)) ∷ (idle 0) ∷ (start 0 1 0) ∷ (end 0 1 0 0 (msg 0 0 (int 0) ∷ [])) ∷ (hold 1 1 2 0 0 1 0 (int 0)) ∷ (idle 1) ∷ (give 2 2 3 0 0 0 kept 0 (int 2)) ∷ (shut 2 0 ended_won) ∷ (take 0 0 2 0 1) ∷ (idle 0) ∷ (give 2 2 3 0 1 1 kept 0 (int 0)) ∷ (shut 2 1 ended_won) ∷ (take 1 1 2 0 0) ∷ (shut 1 0 ended_out) ∷ (start 0 1 1) ∷ (end 0 1 1 1 []) ∷ (idle 1) ∷ (none 1 1 2 0) ∷ (idle 1) ∷ (idle 2) ∷ (idle 3) ∷ (refuse 4 4 5 0 0) ∷ (shut 4 0 ended_failed) ∷ (free 3 0 4 0 1) ∷ (shut 0 1 ended_out) ∷ (idle 0) ∷ (idle 4) ∷ (idle 5) ∷ [])

legal : is_run shape 1 1 journal ≡ true
unfolding lists_compute
legal = refl

bearing : births journal ≡ 8
unfolding lists_compute
bearing = refl

closed : open_after shape journal ≡ 0
unfolding lists_compute
closed = refl

agreeing : modes_agree shape journal ≡ true
unfolding lists_compute
agreeing = refl

matching : holds_match shape journal ≡ true
unfolding lists_compute
matching = refl

adding : tallies_add_up shape journal ≡ true
unfolding lists_compute
adding = refl

limited : limits_kept shape journal ≡ true
unfolding lists_compute
limited = refl

scripted : scripts_kept shape scripts journal ≡ true
unfolding lists_compute
scripted = refl

scheduled : is_scheduled shape scripts journal ≡ true
unfolding lists_compute
scheduled = refl

answered : bodies_kept builtin shape journal ≡ true
unfolding lists_compute
answered = refl

tally_0 : tally_of 0 (K.Function false None 0 (int 1)) journal ≡ record { came = 2; out = 1; eaten = 1; lost = 0; over = 0 }
unfolding lists_compute
tally_0 = refl

kept_0 : kept_of (tally_of 0 (K.Function false None 0 (int 1)) journal) ≡ 0
unfolding lists_compute
kept_0 = refl

tally_1 : tally_of 1 (K.Input 8 (int 1)) journal ≡ record { came = 1; out = 1; eaten = 0; lost = 0; over = 0 }
unfolding lists_compute
tally_1 = refl

kept_1 : kept_of (tally_of 1 (K.Input 8 (int 1)) journal) ≡ 0
unfolding lists_compute
kept_1 = refl

tally_2 : tally_of 2 (K.Limiter 3 false) journal ≡ record { came = 2; out = 2; eaten = 0; lost = 0; over = 0 }
unfolding lists_compute
tally_2 = refl

kept_2 : kept_of (tally_of 2 (K.Limiter 3 false) journal) ≡ 0
unfolding lists_compute
kept_2 = refl

tally_3 : tally_of 3 (K.Queue None) journal ≡ record { came = 2; out = 0; eaten = 0; lost = 0; over = 0 }
unfolding lists_compute
tally_3 = refl

kept_3 : kept_of (tally_of 3 (K.Queue None) journal) ≡ 2
unfolding lists_compute
kept_3 = refl

tally_4 : tally_of 4 (K.Limiter 1 false) journal ≡ record { came = 0; out = 0; eaten = 0; lost = 0; over = 0 }
unfolding lists_compute
tally_4 = refl

kept_4 : kept_of (tally_of 4 (K.Limiter 1 false) journal) ≡ 0
unfolding lists_compute
kept_4 = refl

tally_5 : tally_of 5 (K.WriteOnce) journal ≡ record { came = 1; out = 0; eaten = 0; lost = 0; over = 0 }
unfolding lists_compute
tally_5 = refl

kept_5 : kept_of (tally_of 5 (K.WriteOnce) journal) ≡ 1
unfolding lists_compute
kept_5 = refl

-- start with another item
wrong_0 : may_follow shape (first_of 4 journal) (start 0 0 1) ≡ false
unfolding lists_compute
wrong_0 = refl

-- end with another item
wrong_1 : may_follow shape (first_of 5 journal) (end 0 0 1 1 (msg 0 0 (int 2) ∷ [])) ≡ false
unfolding lists_compute
wrong_1 = refl

-- end with another first
wrong_2 : may_follow shape (first_of 5 journal) (end 0 0 0 2 (msg 0 0 (int 2) ∷ [])) ≡ false
unfolding lists_compute
wrong_2 = refl

-- the node isn't at rest: it has a take to make
early_3 : may_follow shape (first_of 15 journal) (idle 2) ≡ false
unfolding lists_compute
early_3 = refl

-- take with another link edge
wrong_4 : may_follow shape (first_of 15 journal) (take 1 0 2 0 1) ≡ false
unfolding lists_compute
wrong_4 = refl

-- take with another link from
wrong_5 : may_follow shape (first_of 15 journal) (take 0 1 2 0 1) ≡ false
unfolding lists_compute
wrong_5 = refl

-- take with another link to
wrong_6 : may_follow shape (first_of 15 journal) (take 0 0 3 0 1) ≡ false
unfolding lists_compute
wrong_6 = refl

-- take with another link port
wrong_7 : may_follow shape (first_of 15 journal) (take 0 0 2 1 1) ≡ false
unfolding lists_compute
wrong_7 = refl

-- take with another item
wrong_8 : may_follow shape (first_of 15 journal) (take 0 0 2 0 2) ≡ false
unfolding lists_compute
wrong_8 = refl

-- the node isn't at rest: it has a none to make
early_9 : may_follow shape (first_of 20 journal) (idle 2) ≡ false
unfolding lists_compute
early_9 = refl

-- none with another link edge
wrong_10 : may_follow shape (first_of 24 journal) (none 2 1 2 0) ≡ false
unfolding lists_compute
wrong_10 = refl

-- none with another link from
wrong_11 : may_follow shape (first_of 24 journal) (none 1 2 2 0) ≡ false
unfolding lists_compute
wrong_11 = refl

-- none with another link to
wrong_12 : may_follow shape (first_of 24 journal) (none 1 1 3 0) ≡ false
unfolding lists_compute
wrong_12 = refl

-- none with another link port
wrong_13 : may_follow shape (first_of 24 journal) (none 1 1 2 1) ≡ false
unfolding lists_compute
wrong_13 = refl
