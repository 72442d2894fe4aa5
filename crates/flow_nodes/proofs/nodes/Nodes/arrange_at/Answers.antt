use Rattle.std.proofs.Common.{sym, ap, ◌∙◌, map}
use Rattle.flow_node.specs.Readied.{is_waiting}
use Rattle.flow_nodes.proofs.ListLemmas.{read-at, same-nodes}
use Rattle.flow_nodes.proofs.nodes.Nodes.arrange_at.Goals as goal

pub invariant_of-self : goal.invariant_of-self
invariant_of-self c =
    let here = read-at c.args.at c.index_mut-node.result.now c.self.view_is c.requires c.index_mut-node.ensures.value in
    c.self.invariant ∙ ap (map is_waiting) (sym (same-nodes c.self.inside.nodes.items c.args.at c.arrange.new.self c.index_mut-node.result.now (rw (c.self.view_is) here) c.arrange.ensures))

pub returns : goal.returns
returns c = record {
  was = c.index_mut-node.result.now;
  now = c.arrange.new.self;
  before = read-at c.args.at c.index_mut-node.result.now c.self.view_is c.requires c.index_mut-node.ensures.value;
  list = rw (← c.self.view_is);
  node = c.arrange.ensures;
}
