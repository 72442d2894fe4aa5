use Rattle.std.proofs.Common.{sym, ap, ◌∙◌, map}
use Rattle.std.proofs.lemmas.List.{map-set}
use Rattle.flow_node.specs.Readied.{is_waiting}
use Rattle.flow_nodes.specs.Stepping.{node_of}
use Rattle.flow_nodes.proofs.ListLemmas.{read-at}
use Rattle.flow_nodes.proofs.nodes.Nodes.step_one.Goals as goal

pub apply_one-requires : goal.apply_one-requires
apply_one-requires c =
    let here = read-at c.args.at c.index_mut-node.result.now c.self.view_is c.requires.within c.index_mut-node.ensures.value in
    let may = c.requires.may c.index_mut-node.result.now here in
    record {
      party = rw (may.number) may.party;
      allowed = may.allowed;
      prepared = c.requires.prepared c.index_mut-node.result.now here;
      alone = c.requires.alone;
    }

pub invariant_of-self : goal.invariant_of-self
invariant_of-self c =
    rw (c.mark.ensures, c.self.invariant) (sym (map-set is_waiting _ _ _) ∙ ap (map is_waiting) (sym (map-set node_of c.self.inside.nodes.items c.args.at c.apply_one.new.self)))

pub returns : goal.returns
returns c = record {
  was = c.index_mut-node.result.now;
  now = c.apply_one.new.self;
  before = read-at c.args.at c.index_mut-node.result.now c.self.view_is c.requires.within c.index_mut-node.ensures.value;
  list = rw (← c.self.view_is);
  node = c.apply_one.ensures;
}
