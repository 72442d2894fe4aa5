use Rattle.std.proofs.Common.{sym, ap, ◌∙◌}
use Rattle.std.specs.Option.{option_copied}
use Rattle.flow_node.proofs.WireLemmas.{wires-of-kind}
use Rattle.flow_node.proofs.node.NodeState.new.Goals as goal

pub of_kind-requires-clause-wires : goal.of_kind-requires-clause-wires
of_kind-requires-clause-wires c =
    rw (c.in_ok-outs-in-Some.ensures) (wires-of-kind c.args.shape.now c.args.n c.in-Some.kind.now (sym c.get.ensures.value ∙ ap option_copied c.in-Some.is) 0 c.args.shape.now.edges)
