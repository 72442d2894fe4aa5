-- each test of a journal tells a wrong one
use Rattle.std.specs.Prelude.{◌≡◌, true, false, None, Some, List, [], ◌∷◌}
use Rattle.std.proofs.Common.{refl}
use Rattle.flow_item.specs.declared.event.Event.{Event}
use Rattle.flow_item.specs.Values.{lists_compute}
use Rattle.flow_shape.specs.declared.Kind.TheVariants as K
use Rattle.flow_shape.specs.declared.Shape.{Shape}
use Rattle.flow_shape.specs.declared.Step.{Step}
use Rattle.flow_shape.specs.declared.Step.TheVariants as T
use Rattle.flow_machine.specs.Machine.{is_legal, modes_agree}
use Rattle.flow_machine.specs.Reservations.{holds_match}
use Rattle.flow_machine.specs.Limits.{limits_kept, passes_limit}
use Rattle.flow_machine.specs.Ledger.{tallies_add_up}
use Rattle.flow_machine.specs.Scripts.{scripts_kept}
use Rattle.flow_machine.specs.Bodies.{bodies_kept}
use Rattle.flow_machine.specs.Schedule.{is_scheduled}
use Rattle.flow_vectors.specs.Builtin.{builtin}
use Rattle.flow_vectors.specs.Lines.{int, kept, ended_out, msg, edge, put, leave, give, refuse, hold, start, end, shut, idle}

abbrev queues : Shape
queues = record { nodes = K.Queue None ∷ K.Queue None ∷ K.Queue None ∷ []; edges = edge 0 0 1 0 ∷ [] }

-- the refusal names another to-node than the edge has
abbrev strange_refusal : List Event
strange_refusal = (put 0 0 0 0 0 kept (int 5)) ∷ (refuse 0 0 2 0 0) ∷ []

refusal_illegal : is_legal queues strange_refusal ≡ false
unfolding lists_compute
refusal_illegal = refl

modes_differ : modes_agree queues strange_refusal ≡ false
unfolding lists_compute
modes_differ = refl

abbrev limiters : Shape
limiters = record { nodes = K.Queue None ∷ K.Limiter 1 false ∷ K.Limiter 1 false ∷ K.Queue None ∷ []; edges = edge 0 0 1 0 ∷ edge 1 0 3 0 ∷ edge 0 0 2 0 ∷ [] }

-- the hold names another to-node than the edge has
abbrev strange_hold : List Event
strange_hold = (put 0 0 0 0 0 kept (int 5)) ∷ (hold 0 0 2 0 0 0 0 (int 5)) ∷ []

hold_illegal : is_legal limiters strange_hold ≡ false
unfolding lists_compute
hold_illegal = refl

holds_differ : holds_match limiters strange_hold ≡ false
unfolding lists_compute
holds_differ = refl

-- the limiter holds a second item past its threshold
abbrev two_hands : List Event
two_hands = (put 0 0 0 0 0 kept (int 5)) ∷ (put 0 0 0 1 1 kept (int 6)) ∷ (hold 0 0 1 0 0 0 0 (int 5)) ∷ (hold 0 0 1 0 1 1 1 (int 6)) ∷ []

hands_illegal : is_legal limiters two_hands ≡ false
unfolding lists_compute
hands_illegal = refl

past_threshold : limits_kept limiters two_hands ≡ false
unfolding lists_compute
past_threshold = refl

abbrev body : Shape
body = record { nodes = K.Function false (Some 1) 0 (int 1) ∷ []; edges = [] }

-- a message went out that never came
abbrev lost_count : List Event
lost_count = (put 0 0 0 0 0 kept (int 5)) ∷ (shut 0 3 ended_out) ∷ []

count_illegal : is_legal body lost_count ≡ false
unfolding lists_compute
count_illegal = refl

ledger_off : tallies_add_up body lost_count ≡ false
unfolding lists_compute
ledger_off = refl

-- the body that adds 1 to 5 answers 7
abbrev wrong_answer : List Event
wrong_answer = (put 0 0 0 0 0 kept (int 5)) ∷ (leave 0) ∷ (start 0 0 0) ∷ (end 0 0 0 1 ((msg 0 0 (int 7)) ∷ [])) ∷ []

answer_legal : is_legal body wrong_answer ≡ true
unfolding lists_compute
answer_legal = refl

answer_not_kept : bodies_kept builtin body wrong_answer ≡ false
unfolding lists_compute
answer_not_kept = refl

abbrev scripts : List (List Step)
scripts = ((T.Put 0 0 0 (int 5)) ∷ (T.Put 0 0 1 (int 6)) ∷ []) ∷ []

-- another value, and the second put without the first
another_value : scripts_kept queues scripts ((put 0 0 0 0 0 kept (int 6)) ∷ []) ≡ false
unfolding lists_compute
another_value = refl

put_left_out : scripts_kept queues scripts ((put 0 0 0 1 0 kept (int 6)) ∷ []) ≡ false
unfolding lists_compute
put_left_out = refl

left_early : scripts_kept queues scripts ((put 0 0 0 0 0 kept (int 5)) ∷ (leave 0) ∷ []) ≡ false
unfolding lists_compute
left_early = refl

put_twice : scripts_kept queues scripts ((put 0 0 0 0 0 kept (int 5)) ∷ (put 0 0 0 0 1 kept (int 5)) ∷ []) ≡ false
unfolding lists_compute
put_twice = refl

first_put : scripts_kept queues scripts ((put 0 0 0 0 0 kept (int 5)) ∷ []) ≡ true
unfolding lists_compute
first_put = refl

-- the second node goes before the first
abbrev greatest_first : List Event
greatest_first = (put 0 0 0 0 0 kept (int 5)) ∷ (put 0 2 0 1 0 kept (int 6)) ∷ (leave 0) ∷ (idle 2) ∷ (give 0 0 1 0 0 0 kept 0 (int 5)) ∷ (idle 0) ∷ (idle 1) ∷ []

greatest_legal : is_legal queues greatest_first ≡ true
unfolding lists_compute
greatest_legal = refl

greatest_unscheduled : is_scheduled queues (((T.Put 0 0 0 (int 5)) ∷ (T.Put 2 0 1 (int 6)) ∷ []) ∷ []) greatest_first ≡ false
unfolding lists_compute
greatest_unscheduled = refl

-- below both limits; past the limit on items, and an event without items; at the limit on events
below_limits : passes_limit queues 1 1 1 9 [] (put 0 0 0 0 0 kept (int 5)) ≡ false
unfolding lists_compute
below_limits = refl

no_item : passes_limit queues 1 1 0 9 [] (leave 0) ≡ false
unfolding lists_compute
no_item = refl

past_items : passes_limit queues 1 1 0 9 [] (put 0 0 0 0 0 kept (int 5)) ≡ true
unfolding lists_compute
past_items = refl

past_events : passes_limit queues 1 1 9 0 [] (leave 0) ≡ true
unfolding lists_compute
past_events = refl

strange_past : passes_limit queues 1 1 9 0 [] (leave 1) ≡ false
unfolding lists_compute
strange_past = refl
