use Rattle.flow_node.proofs.node.NodeState.apply_two.Goals as goal

pub change_two-requires : goal.change_two-requires
change_two-requires c = (c.args.e.now, record { change = c.of.ensures; ends = c.requires.ends; allowed = c.requires.allowed; other_allowed = c.requires.other_allowed; prepared = c.requires.prepared; other_prepared = c.requires.other_prepared })

pub returns-clause-node : goal.returns-clause-node
returns-clause-node c = c.change_two.ensures.node c.args.e.now record { change = c.of.ensures; ends = c.requires.ends; allowed = c.requires.allowed; other_allowed = c.requires.other_allowed; prepared = c.requires.prepared; other_prepared = c.requires.other_prepared }

pub returns-clause-other : goal.returns-clause-other
returns-clause-other c = c.change_two.ensures.other c.args.e.now record { change = c.of.ensures; ends = c.requires.ends; allowed = c.requires.allowed; other_allowed = c.requires.other_allowed; prepared = c.requires.prepared; other_prepared = c.requires.other_prepared }
