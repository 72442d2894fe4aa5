-- what a node's readers answer
use Rattle.std.specs.Prelude.{◌≡◌, true, false, Some, None, List, [], ◌∷◌, ◌++◌, map}
use Rattle.std.proofs.Common.{refl}
use Rattle.flow_item.specs.declared.event.Event.{Event}
use Rattle.flow_item.specs.Values.{lists_compute}
use Rattle.flow_shape.specs.declared.Shape.{Shape}
use Rattle.flow_shape.specs.declared.Kind.{Kind}
use Rattle.flow_shape.specs.declared.Kind.TheVariants as K
use Rattle.flow_shape.specs.Places.{Place, place_at}
use Rattle.flow_machine.specs.State.{NodeState, item_of}
use Rattle.flow_machine.specs.Machine.{is_legal, state_of}
use Rattle.flow_machine.specs.Readers.{item_of_number, item_at, open_ticket, part_of}
use Rattle.flow_vectors.specs.Lines.{int, kept, id, put, start, end, form}

-- a priority node with three items, an async node with two tickets, a body that runs and one that waits, and a join
abbrev async : Kind
async = K.Async false (Some 1) (int 0)

abbrev shape : Shape
shape = record { nodes = K.Priority ∷ async ∷ K.QueueJoin 2 ∷ []; edges = [] }

abbrev journal : List Event
journal =
    put 0 0 0 7 0 kept (int 1) ∷ put 0 0 0 8 1 kept (int 5) ∷ put 0 0 0 9 2 kept (int 3)
    ∷ put 0 1 0 0 0 kept (int 20) ∷ put 0 1 0 0 1 kept (int 21) ∷ put 0 1 0 0 2 kept (int 22) ∷ put 0 1 0 0 3 kept (int 23)
    ∷ start 0 1 0 ∷ end 0 1 0 4 [] ∷ start 0 1 1 ∷ end 0 1 1 4 [] ∷ start 0 1 2
    ∷ put 0 2 0 0 0 kept (int 40) ∷ put 0 2 1 0 1 kept (int 41) ∷ put 0 2 1 0 2 kept (int 42) ∷ []

legal : is_legal shape journal ≡ true
unfolding lists_compute
legal = refl

-- ---- the priority node

abbrev priority : Place
priority = place_at shape 0 K.Priority

abbrev ranked : NodeState
ranked = state_of shape 0 K.Priority journal

greatest_first : map (item_at priority ranked) (0 ∷ 1 ∷ 2 ∷ 3 ∷ []) ≡ Some (item_of 0 1 8 (int 5)) ∷ Some (item_of 0 2 9 (int 3)) ∷ Some (item_of 0 0 7 (int 1)) ∷ None ∷ []
unfolding lists_compute
greatest_first = refl

by_number : map (item_of_number ranked) (0 ∷ 2 ∷ 3 ∷ []) ≡ Some (item_of 0 0 7 (int 1)) ∷ Some (item_of 0 2 9 (int 3)) ∷ None ∷ []
unfolding lists_compute
by_number = refl

-- ---- the async node

abbrev working : NodeState
working = state_of shape 1 async journal

oldest_first : map (open_ticket working) (0 ∷ 1 ∷ 2 ∷ []) ≡ Some (item_of 1 0 0 (int 20)) ∷ Some (item_of 1 1 0 (int 21)) ∷ None ∷ []
unfolding lists_compute
oldest_first = refl

wherever_it_is : map (item_of_number working) (1 ∷ 2 ∷ 3 ∷ 4 ∷ []) ≡ Some (item_of 1 1 0 (int 21)) ∷ Some (item_of 1 2 0 (int 22)) ∷ Some (item_of 1 3 0 (int 23)) ∷ None ∷ []
unfolding lists_compute
wherever_it_is = refl

-- ---- the join

abbrev join : Place
join = place_at shape 2 (K.QueueJoin 2)

abbrev joining : NodeState
joining = state_of shape 2 (K.QueueJoin 2) journal

first_parts : map (part_of join joining) (0 ∷ 1 ∷ 2 ∷ []) ≡ Some (id 2 0) ∷ Some (id 2 1) ∷ None ∷ []
unfolding lists_compute
first_parts = refl

-- once the tuple is in the slot no other may be formed
abbrev formed : NodeState
formed = state_of shape 2 (K.QueueJoin 2) (journal ++ form 2 3 (id 2 0 ∷ id 2 1 ∷ []) ∷ [])

no_parts : map (part_of join formed) (0 ∷ 1 ∷ []) ≡ None ∷ None ∷ []
unfolding lists_compute
no_parts = refl

in_the_slot : map (item_of_number formed) (0 ∷ 2 ∷ []) ≡ None ∷ Some (item_of 2 2 0 (int 42)) ∷ []
unfolding lists_compute
in_the_slot = refl
