use Rattle.std.proofs.Common.{sym, ap, ◌∙◌, ◌≡◌, map}
use Rattle.std.proofs.lemmas.Option.{same_Some}
use Rattle.std.proofs.lemmas.Result.{on_ok_weaker}
use Rattle.flow_node.specs.Readied.{is_waiting}
use Rattle.flow_nodes.proofs.ListLemmas.{read-at, get-set-same, same-nodes}
use Rattle.flow_nodes.proofs.nodes.Nodes.prepare.Goals as goal

pub invariant_of-self : goal.invariant_of-self
invariant_of-self c =
    let here = read-at c.args.at c.index_mut-node.result.now c.self.view_is c.requires c.index_mut-node.ensures.value in
    c.self.invariant ∙ ap (map is_waiting) (sym (same-nodes c.self.inside.nodes.items c.args.at c.prepare.new.self c.index_mut-node.result.now (rw (c.self.view_is) here) c.prepare.ensures.same))

pub returns-clause-same : goal.returns-clause-same
returns-clause-same c = record {
  was = c.index_mut-node.result.now;
  now = c.prepare.new.self;
  before = read-at c.args.at c.index_mut-node.result.now c.self.view_is c.requires c.index_mut-node.ensures.value;
  list = rw (← c.self.view_is);
  node = c.prepare.ensures.same;
}

pub returns-clause-ok : goal.returns-clause-ok
returns-clause-ok c =
    let here = read-at c.args.at c.index_mut-node.result.now c.self.view_is c.requires c.index_mut-node.ensures.value in
    let now = get-set-same c.self.inside.nodes.items c.args.at c.prepare.new.self c.index_mut-node.result.now (rw (c.self.view_is) here) in
    on_ok_weaker c.prepare.result (λ d q h. let same : c.prepare.new.self ≡ q = same_Some _ _ (sym now ∙ h) in rw (← same) d) c.prepare.ensures.ok
