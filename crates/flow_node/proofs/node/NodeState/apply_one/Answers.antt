use Rattle.flow_node.proofs.node.NodeState.apply_one.Goals as goal

pub change_one-requires : goal.change_one-requires
change_one-requires c = (c.args.e.now, record { change = c.of.ensures; alone = c.requires.alone; party = c.requires.party; allowed = c.requires.allowed; prepared = c.requires.prepared })

pub returns : goal.returns
returns c = c.change_one.ensures c.args.e.now record { change = c.of.ensures; alone = c.requires.alone; party = c.requires.party; allowed = c.requires.allowed; prepared = c.requires.prepared }
