use Rattle.flow_node.proofs.node.NodeState.apply_to.Goals as goal

pub change_to-requires : goal.change_to-requires
change_to-requires c = (c.args.e.now, record { change = c.of.ensures; met = c.requires.met; over = c.requires.over; to = c.requires.to; party = c.requires.party; allowed = c.requires.allowed; prepared = c.requires.prepared; given = c.requires.given })

pub returns : goal.returns
returns c = c.change_to.ensures c.args.e.now record { change = c.of.ensures; met = c.requires.met; over = c.requires.over; to = c.requires.to; party = c.requires.party; allowed = c.requires.allowed; prepared = c.requires.prepared; given = c.requires.given }
