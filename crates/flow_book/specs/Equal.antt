-- Equal lists of values.
use Rattle.std.specs.Prelude.{Bool, true, false, ◌&&◌, List, [], ◌∷◌}
use Rattle.flow_item.specs.declared.val.Val.{Val}
use Rattle.flow_item.specs.Values.{same_val}

-- whether two lists have equal members
abbrev pub same_list : List Val → List Val → Bool
same_list [] [] = true
same_list (x ∷ xs) (y ∷ ys) = same_val x y && same_list xs ys
same_list xs ys = false
