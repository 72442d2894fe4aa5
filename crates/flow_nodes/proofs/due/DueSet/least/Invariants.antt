use Rattle.std.proofs.Common.{◌*◌}
use Rattle.flow_nodes.specs.DueSets.{IsClear}
use Rattle.flow_nodes.proofs.due.DueSet.least.Given as goal

-- no flag is raised in the blocks so far
abbrev pub invariant-loop-block : goal.invariant-loop-block
invariant-loop-block l = IsClear l.self-inside.flags.items 0 (32 * l.block)
