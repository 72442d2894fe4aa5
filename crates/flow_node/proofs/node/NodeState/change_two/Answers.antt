use Rattle.std.proofs.Common.{ap}
use Rattle.flow_node.specs.Readied.{Readied}
use Rattle.flow_node.proofs.ChangeLemmas.{two-from, two-to}
use Rattle.flow_node.proofs.node.NodeState.change_two.Goals as goal

pub change_from-given-requires : goal.change_from-given-requires
change_from-given-requires c =
    let e = c.requires.0 in
    (e, two-from c.other.inside.base c.other.inside.part (ap (λ (r : Readied). r.node) c.other.view_is) c.other.invariant c.args.change e c.requires.1)

pub change_to-requires : goal.change_to-requires
change_to-requires c =
    let e = c.requires.0 in
    let other = ap (λ (r : Readied). r.node) c.other.view_is in
    let first = two-from c.other.inside.base c.other.inside.part other c.other.invariant c.args.change e c.requires.1 in
    (e, two-to c.other.inside.base c.other.inside.part other c.other.invariant c.args.change e c.requires.1 _ (c.change_from-given.ensures.given e first))

pub returns-clause-node : goal.returns-clause-node
returns-clause-node c = λ e h.
    c.change_from-given.ensures.node e (two-from c.other.inside.base c.other.inside.part (ap (λ (r : Readied). r.node) c.other.view_is) c.other.invariant c.args.change e h)

pub returns-clause-other : goal.returns-clause-other
returns-clause-other c = λ e h.
    let other = ap (λ (r : Readied). r.node) c.other.view_is in
    let first = two-from c.other.inside.base c.other.inside.part other c.other.invariant c.args.change e h in
    c.change_to.ensures e (two-to c.other.inside.base c.other.inside.part other c.other.invariant c.args.change e h _ (c.change_from-given.ensures.given e first))
