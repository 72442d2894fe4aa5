use Rattle.flow_nodes.proofs.nodes.Nodes.first_waiting.Goals as goal

pub returns : goal.returns
returns c = rw (c.least.ensures, c.self.invariant, ← c.self.view_is)
