use Rattle.std.proofs.Common.{ap, refl}
use Rattle.flow_node.specs.Readied.{Readied}
use Rattle.flow_node.proofs.ChangeLemmas.{from-needs, from-steps, from-hands, only-from, turn-step}
use Rattle.flow_node.proofs.node.NodeState.change_from.Goals as goal

pub give-requires : goal.give-requires
give-requires c =
    from-needs c.self.inside.base c.self.inside.part (ap (λ (r : Readied). r.node) c.self.view_is) c.self.invariant c.args.change _ c.in-Give.is c.requires.0 c.requires.1

pub returns-in-Give-clause-node : goal.returns-in-Give-clause-node
returns-in-Give-clause-node c =
    from-steps c.self.inside.base c.self.inside.part (ap (λ (r : Readied). r.node) c.self.view_is) c.self.invariant c.args.change _ _ c.in-Give.is c.give.ensures.node

pub returns-in-Give-clause-given : goal.returns-in-Give-clause-given
returns-in-Give-clause-given c = from-hands c.args.change _ _ c.in-Give.is c.give.ensures.value

pub refuse-requires : goal.refuse-requires
refuse-requires c =
    from-needs c.self-in-Refuse.inside.base c.self-in-Refuse.inside.part (ap (λ (r : Readied). r.node) c.self-in-Refuse.view_is) c.self-in-Refuse.invariant c.args.change _ c.in-Refuse.is c.requires.0 c.requires.1

pub returns-in-Refuse-clause-node : goal.returns-in-Refuse-clause-node
returns-in-Refuse-clause-node c =
    from-steps c.self-in-Refuse.inside.base c.self-in-Refuse.inside.part (ap (λ (r : Readied). r.node) c.self-in-Refuse.view_is) c.self-in-Refuse.invariant c.args.change _ _ c.in-Refuse.is c.refuse.ensures

pub returns-in-Refuse-clause-given : goal.returns-in-Refuse-clause-given
returns-in-Refuse-clause-given c = from-hands c.args.change _ _ c.in-Refuse.is refl

pub turn_to_push-requires : goal.turn_to_push-requires
turn_to_push-requires c =
    let turns = from-needs c.self-in-None.inside.base c.self-in-None.inside.part (ap (λ (r : Readied). r.node) c.self-in-None.view_is) c.self-in-None.invariant c.args.change _ c.in-None.is c.requires.0 c.requires.1 in
    rw (← c.self-in-None.view_is) at turns

pub returns-in-None-clause-node : goal.returns-in-None-clause-node
returns-in-None-clause-node c =
    let b = c.self-in-None.inside.base in
    let p = c.self-in-None.inside.part in
    let view = ap (λ (r : Readied). r.node) c.self-in-None.view_is in
    from-steps b p view c.self-in-None.invariant c.args.change _ _ c.in-None.is (turn-step c.args.self.now b c.turn_to_push.new.self p c.in-None.edge view c.turn_to_push.ensures.items c.turn_to_push.ensures.same)

pub returns-in-None-clause-given : goal.returns-in-None-clause-given
returns-in-None-clause-given c = from-hands c.args.change _ _ c.in-None.is refl

pub unreachable-requires : goal.unreachable-requires
unreachable-requires c =
    let b = c.self-in_default.inside.base in
    let p = c.self-in_default.inside.part in
    let needs = from-needs b p (ap (λ (r : Readied). r.node) c.self-in_default.view_is) c.self-in_default.invariant c.args.change _ refl c.requires.0 c.requires.1 in
    only-from c.args.self.now c.args.change needs c.in_default.not-Give c.in_default.not-Refuse c.in_default.not-None
