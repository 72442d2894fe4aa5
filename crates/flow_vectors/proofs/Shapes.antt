-- each rule of a shape, at the least place where it fails, and a shape that keeps all; the counts of nodes and edges are too wide to be worked here
use Rattle.std.specs.Prelude.{◌≡◌, false, None, Some, [], ◌∷◌}
use Rattle.std.proofs.Common.{refl}
use Rattle.flow_shape.specs.declared.Kind.TheVariants as K
use Rattle.flow_shape.specs.declared.Rule.TheVariants.{G3, G4, G5, G6, G7, G8, G9, G10, G11, G12, G13}
use Rattle.flow_shape.specs.Rules.{first_fault}
use Rattle.flow_vectors.specs.Lines.{int, edge}

valid : first_fault record { nodes = K.Queue None ∷ K.Overwrite ∷ K.HoldJoin 2 ∷ K.Queue (Some 1000000) ∷ []; edges = edge 0 0 2 0 ∷ edge 1 0 2 1 ∷ edge 2 0 3 0 ∷ [] } ≡ None
valid = refl

empty : first_fault record { nodes = []; edges = [] } ≡ None
empty = refl

ports : first_fault record { nodes = K.Queue None ∷ K.KeyJoin 9 ∷ K.Split 0 ∷ []; edges = [] } ≡ Some record { rule = G3; at = 1 }
ports = refl

outs : first_fault record { nodes = K.Multi false None 0 (int 0) 9 ∷ []; edges = [] } ≡ Some record { rule = G3; at = 0 }
outs = refl

limit : first_fault record { nodes = K.Function false (Some 1000000) 0 (int 0) ∷ K.Function false (Some 1000001) 0 (int 0) ∷ []; edges = [] } ≡ Some record { rule = G4; at = 1 }
limit = refl

threshold : first_fault record { nodes = K.Limiter 0 false ∷ []; edges = [] } ≡ Some record { rule = G5; at = 0 }
threshold = refl

missing_node : first_fault record { nodes = K.Queue None ∷ []; edges = edge 0 0 1 0 ∷ [] } ≡ Some record { rule = G6; at = 0 }
missing_node = refl

out_port : first_fault record { nodes = K.Queue None ∷ K.Queue None ∷ []; edges = edge 0 0 1 0 ∷ edge 0 1 1 1 ∷ [] } ≡ Some record { rule = G7; at = 1 }
out_port = refl

in_port : first_fault record { nodes = K.Queue None ∷ K.Queue None ∷ []; edges = edge 0 0 1 1 ∷ edge 0 0 0 0 ∷ [] } ≡ Some record { rule = G8; at = 0 }
in_port = refl

itself : first_fault record { nodes = K.Queue None ∷ []; edges = edge 0 0 0 0 ∷ [] } ≡ Some record { rule = G9; at = 0 }
itself = refl

hand_to_join : first_fault record { nodes = K.Limiter 1 false ∷ K.HoldJoin 1 ∷ []; edges = edge 0 0 1 0 ∷ [] } ≡ Some record { rule = G10; at = 0 }
hand_to_join = refl

hand_to_limiter : first_fault record { nodes = K.Limiter 1 false ∷ K.Limiter 1 false ∷ []; edges = edge 0 0 1 0 ∷ [] } ≡ Some record { rule = G11; at = 0 }
hand_to_limiter = refl

hand_to_decrement : first_fault record { nodes = K.Limiter 1 false ∷ K.Limiter 1 false ∷ []; edges = edge 0 0 1 1 ∷ [] } ≡ None
hand_to_decrement = refl

kept_values : first_fault record { nodes = K.Overwrite ∷ K.WriteOnce ∷ K.HoldJoin 2 ∷ []; edges = edge 0 0 2 0 ∷ edge 1 0 2 1 ∷ [] } ≡ Some record { rule = G12; at = 2 }
kept_values = refl

capacity : first_fault record { nodes = K.Queue (Some 0) ∷ []; edges = [] } ≡ Some record { rule = G13; at = 0 }
capacity = refl
