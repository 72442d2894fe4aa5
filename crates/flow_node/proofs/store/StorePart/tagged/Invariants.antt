use Rattle.std.proofs.Common.{◌≡◌, drop, filter, eqb}
use Rattle.std.specs.List.{find}
use Rattle.flow_item.specs.declared.item.Item.{Item}
use Rattle.flow_machine.specs.Enabled.{is_numbered}
use Rattle.flow_node.specs.Parts.{store_state}
use Rattle.flow_node.proofs.store.StorePart.tagged.Given as goal

-- none of those before has the number and the tag
abbrev pub invariant-loop-k : goal.invariant-loop-k
invariant-loop-k l = find (is_numbered l.no) (filter (λ (i : Item). eqb i.tag l.tag) (drop l.k (store_state l.self).items)) ≡ find (is_numbered l.no) (filter (λ (i : Item). eqb i.tag l.tag) (store_state l.self).items)
