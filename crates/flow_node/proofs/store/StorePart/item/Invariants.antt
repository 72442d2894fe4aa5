use Rattle.std.proofs.Common.{◌≡◌, drop}
use Rattle.std.specs.List.{find}
use Rattle.flow_machine.specs.Enabled.{is_numbered}
use Rattle.flow_node.specs.Parts.{store_state}
use Rattle.flow_node.proofs.store.StorePart.item.Given as goal

-- none of those before has the number
abbrev pub invariant-loop-k : goal.invariant-loop-k
invariant-loop-k l = find (is_numbered l.no) (drop l.k (store_state l.self).items) ≡ find (is_numbered l.no) (store_state l.self).items
