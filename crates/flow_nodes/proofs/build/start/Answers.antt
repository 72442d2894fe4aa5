use Rattle.std.proofs.Common.{◌≡◌, false, length, map, replicate, ap, ◌∙◌, arith}
use Rattle.std.proofs.lemmas.List.{length-map}
use Rattle.flow_nodes.specs.Stepping.{node_of}
use Rattle.flow_node.proofs.WireLemmas.{valid-few}
use Rattle.flow_nodes.proofs.BuildLemmas.{flags-at-start}
use Rattle.flow_nodes.proofs.build.start.Goals as goal

pub from_parts-requires : goal.from_parts-requires
from_parts-requires c =
    let same : c.len.result ≡ length (map node_of c.in_ok-nodes.nodes.items) = omega (arith, length-map c.in_ok-nodes.nodes.items node_of, c.len.ensures, c.in_ok-nodes.nodes.ok.0) in
    c.in_ok-due.ensures ∙ (ap (λ n. replicate n false) same ∙ flags-at-start c.args.shape.now (map node_of c.in_ok-nodes.nodes.items) c.in_ok-nodes.ensures)

pub nodes_at_start-requires-clause-few : goal.nodes_at_start-requires-clause-few
nodes_at_start-requires-clause-few c = let few = (valid-few c.args.shape.now c.requires.valid).nodes in omega (arith, few)

pub nodes_at_start-requires-clause-edges : goal.nodes_at_start-requires-clause-edges
nodes_at_start-requires-clause-edges c = (valid-few c.args.shape.now c.requires.valid).edges
