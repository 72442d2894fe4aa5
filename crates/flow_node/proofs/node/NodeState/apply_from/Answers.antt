use Rattle.flow_node.proofs.node.NodeState.apply_from.Goals as goal

pub change_from-requires : goal.change_from-requires
change_from-requires c = (c.args.e.now, record { change = c.of.ensures; met = c.requires.met; from = c.requires.from; apart = c.requires.apart; allowed = c.requires.allowed; prepared = c.requires.prepared })

pub returns-clause-node : goal.returns-clause-node
returns-clause-node c = c.change_from.ensures.node c.args.e.now record { change = c.of.ensures; met = c.requires.met; from = c.requires.from; apart = c.requires.apart; allowed = c.requires.allowed; prepared = c.requires.prepared }

pub returns-clause-given : goal.returns-clause-given
returns-clause-given c = c.change_from.ensures.given c.args.e.now record { change = c.of.ensures; met = c.requires.met; from = c.requires.from; apart = c.requires.apart; allowed = c.requires.allowed; prepared = c.requires.prepared }
