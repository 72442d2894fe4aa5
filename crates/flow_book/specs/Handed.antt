-- The nodes that a closed book hands on.
use Rattle.std.specs.Prelude.{◌≡◌, ⊤, ℕ, suc, IfSome, Option, Some, List, [], ◌∷◌, ◌++◌, length, map}
use Rattle.flow_item.specs.declared.event.Event.{Event}
use Rattle.flow_item.specs.declared.event.Party.TheVariants.{Node}
use Rattle.flow_machine.specs.State.{PlacedNode}
use Rattle.flow_node.specs.Readied.{Readied}
use Rattle.flow_nodes.specs.Stepping.{node_of}
use Rattle.flow_line.specs.Values.{Sitting}
use Rattle.flow_book.specs.declared.machine.Run.{Run}
use Rattle.flow_book.specs.Posts.{replayed}

-- these are the chairs of the nodes from number n on, and the nodes after the chairs' own events
abbrev pub AreSeated : ℕ → List (Sitting Event Run) → List PlacedNode → Type 0
AreSeated n [] [] = ⊤
AreSeated n [] (v ∷ vs) = ⊥
AreSeated n (c ∷ cs) [] = ⊥
AreSeated n (c ∷ cs) (v ∷ vs) = (c.party ≡ Node n) × (replayed c ≡ Some v) × AreSeated (suc n) cs vs

-- chairs went behind those of before. Where nodes were taken they are so many, and the chairs are theirs
pub record AreTaken (count : ℕ) (before after : List (Sitting Event Run)) (nodes : Option (List Readied)) : Type 0 where
  pub chairs : List (Sitting Event Run)
  pub behind : after ≡ before ++ chairs
  pub theirs : IfSome nodes (λ rs. (length rs ≡ count) × AreSeated 0 chairs (map node_of rs))

-- one more was taken: its node went behind the nodes, and its chair behind the chairs
abbrev pub IsOneMore : List Readied → List Readied → List (Sitting Event Run) → List (Sitting Event Run) → Type 0
IsOneMore nodes more chairs longer =
    (r : Readied) × (c : Sitting Event Run) × (more ≡ nodes ++ r ∷ []) × (longer ≡ chairs ++ c ∷ []) × (c.party ≡ Node (length nodes)) × (replayed c ≡ Some r.node)
