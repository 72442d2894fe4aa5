-- What a summary is made of.
use Rattle.std.specs.Prelude.{ℕ, ℤ, pos, List, [], ◌∷◌, codes, decimal}
use Rattle.std.specs.Int.{w64, int_wrapping_add}
use Rattle.std.specs.Fmt.{signed_decimal}
use Rattle.flow_item.specs.declared.val.Val.{Val}
use Rattle.flow_item.specs.declared.item.Item.{Item}
use Rattle.flow_item.specs.Pairs.{Pair}
use Rattle.flow_node.specs.Readied.{Readied}
use Rattle.flow_report.specs.Words.{line, lines}
use Rattle.flow_print.specs.Replayed.{pairs_of}
use Rattle.flow_gen.specs.Generated.{whole_sum}

-- the wrapping sum of f over a list
abbrev pub total : {X : Type 0} → (X → ℤ) → List X → ℤ
total f [] = pos 0
total f (x ∷ xs) = int_wrapping_add w64 (f x) (total f xs)

-- the sum of the whole numbers in a list of values
abbrev pub values_sum : List Val → ℤ
values_sum vs = total whole_sum vs

-- in the values of a list of items
abbrev pub items_sum : List Item → ℤ
items_sum items = total (λ i. whole_sum i.val) items

-- the items of the first sink, by the nodes
abbrev pub first_pairs : List ℕ → List Readied → List Pair
first_pairs [] nodes = []
first_pairs (n ∷ ns) nodes = pairs_of nodes n

-- by the number of items, their sum and the last line
abbrev pub summary_lines : ℕ → ℕ → ℤ → List ℕ → List ℕ
summary_lines n count sum last = lines (line (codes "gen" ∷ decimal n ∷ []) ∷ line (codes "lines" ∷ decimal count ∷ []) ∷ line (codes "sum" ∷ signed_decimal sum ∷ []) ∷ last ∷ [])
