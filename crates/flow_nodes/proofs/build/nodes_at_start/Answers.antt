use Rattle.std.proofs.Common.{[], ◌∷◌, ◌<◌, length, map, arith}
use Rattle.std.proofs.lemmas.List.{map-append}
use Rattle.flow_nodes.specs.Stepping.{node_of}
use Rattle.flow_nodes.specs.Rows.{nodes_of}
use Rattle.flow_node.proofs.HoldLemmas.{built-at, limited-at}
use Rattle.flow_nodes.proofs.BuildLemmas.{start-more}
use Rattle.flow_nodes.proofs.build.nodes_at_start.Goals as goal

pub new-requires-clause-built : goal.new-requires-clause-built
new-requires-clause-built c =
    let short : c.loop-n.n < length c.args.shape.now.nodes = let below = c.loop-n-test.true in let is = c.len-n-end.ensures in omega arith in
    built-at c.args.shape.now c.loop-n.n c.requires.built short

pub new-requires-clause-limited : goal.new-requires-clause-limited
new-requires-clause-limited c =
    let short : c.loop-n.n < length c.args.shape.now.nodes = let below = c.loop-n-test.true in let is = c.len-n-end.ensures in omega arith in
    limited-at c.args.shape.now c.loop-n.n c.requires.valid short

pub loop-n-preserved : goal.loop-n-preserved
loop-n-preserved c =
    let made = c.in_ok-new in
    let more = start-more c.args.shape.now c.loop-n.n made.field-0.node (map node_of c.loop-n.nodes.items) (nodes_of c.args.shape.now []) made.ensures c.loop-n.invariant in
    rw (c.in_ok-push.ensures.items, map-append node_of c.loop-n.nodes.items (made.field-0 ∷ [])) more
