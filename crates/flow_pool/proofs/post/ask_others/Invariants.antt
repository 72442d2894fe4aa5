use Rattle.std.proofs.Common.{◌≡◌, All, map, take}
use Rattle.crossbeam_deque.specs.Handles.{view}
use Rattle.flow_pool.specs.Rule.{SawEmpty}
use Rattle.flow_pool.specs.Posts.{AreReaches, AreTold}
use Rattle.flow_pool.proofs.post.ask_others.Given as goal

abbrev pub invariant-loop-k : goal.invariant-loop-k
invariant-loop-k g l =
    AreReaches l.thieves.items l.place l.reaches.items
    × AreTold l.reaches.items
    × (map view l.reaches.items ≡ map view l.initial.reaches.items)
    × All SawEmpty (take l.k (map view l.initial.reaches.items))
