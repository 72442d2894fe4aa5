-- Tags with values.
use Rattle.std.specs.Prelude.{ℕ}
use Rattle.flow_item.specs.declared.val.Val.{Val}
use Rattle.flow_item.specs.declared.item.Item.{Item}
use Rattle.flow_item.specs.declared.item.Msg.{Msg}

-- a tag and a value
abbrev pub Pair : Type 0
Pair = ℕ × Val

abbrev pub pair_of : Item → Pair
pair_of i = (i.tag, i.val)

abbrev pub pair_of_msg : Msg → Pair
pair_of_msg m = (m.tag, m.val)
