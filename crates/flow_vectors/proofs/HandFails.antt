-- a hand that nobody takes fails and frees what it held, a kept value too, and the count stays
use Rattle.std.specs.Prelude.{◌≡◌, true, false, None, List, [], ◌∷◌, take as first_of}
use Rattle.std.proofs.Common.{refl}
use Rattle.flow_item.specs.declared.event.Event.{Event}
use Rattle.flow_item.specs.Values.{lists_compute}
use Rattle.flow_shape.specs.declared.Shape.{Shape}
use Rattle.flow_shape.specs.declared.Step.{Step}
use Rattle.flow_shape.specs.declared.Step.TheVariants as T
use Rattle.flow_shape.specs.declared.Kind.TheVariants as K
use Rattle.flow_item.specs.Events.{births}
use Rattle.flow_machine.specs.Machine.{is_run, may_follow, open_after, modes_agree}
use Rattle.flow_machine.specs.Reservations.{holds_match}
use Rattle.flow_machine.specs.Limits.{limits_kept}
use Rattle.flow_machine.specs.Ledger.{tally_of, kept_of, tallies_add_up}
use Rattle.flow_machine.specs.Scripts.{scripts_kept}
use Rattle.flow_machine.specs.Bodies.{bodies_kept}
use Rattle.flow_machine.specs.Schedule.{is_scheduled}
use Rattle.flow_vectors.specs.Builtin.{builtin}
use Rattle.flow_vectors.specs.Lines.{int, below, kept, ended_failed, edge, put, leave, refuse, hold, free, shut, idle}

abbrev shape : Shape
shape = record { nodes = ((K.Queue None) ∷ (K.Overwrite) ∷ (K.Limiter 1 false) ∷ (K.WriteOnce) ∷ []); edges = (edge 0 0 2 0 ∷ edge 1 0 2 0 ∷ edge 2 0 3 0 ∷ []) }

abbrev scripts : List (List Step)
scripts = (((T.Put 3 0 0 (int 9)) ∷ (T.Put 1 0 0 (int 7)) ∷ (T.Put 0 0 0 (int 1)) ∷ []) ∷ [])

abbrev journal : List Event
journal = ((put 0 3 0 0 0 kept (int 9)) ∷ (put 0 1 0 0 0 kept (int 7)) ∷ (put 0 0 0 0 0 kept (int 1)) ∷ (leave 0) ∷ (hold 0 0 2 0 0 0 0 (int 1)) ∷ (idle 0) ∷ (refuse 1 1 2 0 0) ∷ (idle 1) ∷ (refuse 2 2 3 0 0) ∷ (shut 2 0 ended_failed) ∷ (free 0 0 2 0 0) ∷ (idle 0) ∷ (idle 2) ∷ (idle 3) ∷ [])

legal : is_run shape 1 1 journal ≡ true
unfolding lists_compute
legal = refl

bearing : births journal ≡ 3
unfolding lists_compute
bearing = refl

closed : open_after shape journal ≡ 0
unfolding lists_compute
closed = refl

agreeing : modes_agree shape journal ≡ true
unfolding lists_compute
agreeing = refl

matching : holds_match shape journal ≡ true
unfolding lists_compute
matching = refl

adding : tallies_add_up shape journal ≡ true
unfolding lists_compute
adding = refl

limited : limits_kept shape journal ≡ true
unfolding lists_compute
limited = refl

scripted : scripts_kept shape scripts journal ≡ true
unfolding lists_compute
scripted = refl

scheduled : is_scheduled shape scripts journal ≡ true
unfolding lists_compute
scheduled = refl

answered : bodies_kept builtin shape journal ≡ true
unfolding lists_compute
answered = refl

tally_0 : tally_of 0 (K.Queue None) journal ≡ record { came = 1; out = 0; eaten = 0; lost = 0; over = 0 }
unfolding lists_compute
tally_0 = refl

kept_0 : kept_of (tally_of 0 (K.Queue None) journal) ≡ 1
unfolding lists_compute
kept_0 = refl

tally_1 : tally_of 1 (K.Overwrite) journal ≡ record { came = 1; out = 0; eaten = 0; lost = 0; over = 0 }
unfolding lists_compute
tally_1 = refl

kept_1 : kept_of (tally_of 1 (K.Overwrite) journal) ≡ 1
unfolding lists_compute
kept_1 = refl

tally_2 : tally_of 2 (K.Limiter 1 false) journal ≡ record { came = 0; out = 0; eaten = 0; lost = 0; over = 0 }
unfolding lists_compute
tally_2 = refl

kept_2 : kept_of (tally_of 2 (K.Limiter 1 false) journal) ≡ 0
unfolding lists_compute
kept_2 = refl

tally_3 : tally_of 3 (K.WriteOnce) journal ≡ record { came = 1; out = 0; eaten = 0; lost = 0; over = 0 }
unfolding lists_compute
tally_3 = refl

kept_3 : kept_of (tally_of 3 (K.WriteOnce) journal) ≡ 1
unfolding lists_compute
kept_3 = refl

-- the node isn't at rest: it has a refuse to make
early_0 : may_follow shape (first_of 2 journal) (idle 1) ≡ false
unfolding lists_compute
early_0 = refl

-- the node isn't at rest: it has a hold to make
early_1 : may_follow shape (first_of 3 journal) (idle 0) ≡ false
unfolding lists_compute
early_1 = refl

-- hold with another link edge
wrong_2 : may_follow shape (first_of 4 journal) (hold 1 0 2 0 0 0 0 (int 1)) ≡ false
unfolding lists_compute
wrong_2 = refl

-- hold with another link from
wrong_3 : may_follow shape (first_of 4 journal) (hold 0 1 2 0 0 0 0 (int 1)) ≡ false
unfolding lists_compute
wrong_3 = refl

-- hold with another link to
wrong_4 : may_follow shape (first_of 4 journal) (hold 0 0 3 0 0 0 0 (int 1)) ≡ false
unfolding lists_compute
wrong_4 = refl

-- hold with another link port
wrong_5 : may_follow shape (first_of 4 journal) (hold 0 0 2 1 0 0 0 (int 1)) ≡ false
unfolding lists_compute
wrong_5 = refl

-- hold with another item no
wrong_6 : may_follow shape (first_of 4 journal) (hold 0 0 2 0 1 0 0 (int 1)) ≡ false
unfolding lists_compute
wrong_6 = refl

-- hold with another item tag
wrong_7 : may_follow shape (first_of 4 journal) (hold 0 0 2 0 0 0 1 (int 1)) ≡ false
unfolding lists_compute
wrong_7 = refl

-- hold with another item val
wrong_8 : may_follow shape (first_of 4 journal) (hold 0 0 2 0 0 0 0 (below 76)) ≡ false
unfolding lists_compute
wrong_8 = refl

-- hold with another no
wrong_9 : may_follow shape (first_of 4 journal) (hold 0 0 2 0 0 1 0 (int 1)) ≡ false
unfolding lists_compute
wrong_9 = refl

-- refuse with another link edge
wrong_10 : may_follow shape (first_of 6 journal) (refuse 2 1 2 0 0) ≡ false
unfolding lists_compute
wrong_10 = refl

-- refuse with another link from
wrong_11 : may_follow shape (first_of 6 journal) (refuse 1 2 2 0 0) ≡ false
unfolding lists_compute
wrong_11 = refl

-- refuse with another link to
wrong_12 : may_follow shape (first_of 6 journal) (refuse 1 1 3 0 0) ≡ false
unfolding lists_compute
wrong_12 = refl

-- refuse with another link port
wrong_13 : may_follow shape (first_of 6 journal) (refuse 1 1 2 1 0) ≡ false
unfolding lists_compute
wrong_13 = refl

-- refuse with another item
wrong_14 : may_follow shape (first_of 6 journal) (refuse 1 1 2 0 1) ≡ false
unfolding lists_compute
wrong_14 = refl

-- the node isn't at rest: it has a free to make
early_15 : may_follow shape (first_of 10 journal) (idle 2) ≡ false
unfolding lists_compute
early_15 = refl

-- free with another link edge
wrong_16 : may_follow shape (first_of 10 journal) (free 1 0 2 0 0) ≡ false
unfolding lists_compute
wrong_16 = refl

-- free with another link from
wrong_17 : may_follow shape (first_of 10 journal) (free 0 1 2 0 0) ≡ false
unfolding lists_compute
wrong_17 = refl

-- free with another link to
wrong_18 : may_follow shape (first_of 10 journal) (free 0 0 3 0 0) ≡ false
unfolding lists_compute
wrong_18 = refl

-- free with another link port
wrong_19 : may_follow shape (first_of 10 journal) (free 0 0 2 1 0) ≡ false
unfolding lists_compute
wrong_19 = refl

-- free with another item
wrong_20 : may_follow shape (first_of 10 journal) (free 0 0 2 0 1) ≡ false
unfolding lists_compute
wrong_20 = refl
