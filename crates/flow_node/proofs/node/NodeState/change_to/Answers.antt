use Rattle.std.proofs.Common.{ap, refl}
use Rattle.flow_node.specs.Readied.{Readied}
use Rattle.flow_node.proofs.ChangeLemmas.{to-needs, to-steps, only-to}
use Rattle.flow_node.proofs.node.NodeState.change_to.Goals as goal

pub come-requires : goal.come-requires
come-requires c =
    let may = to-needs c.self.inside.base c.self.inside.part (ap (λ (r : Readied). r.node) c.self.view_is) c.self.invariant c.args.change _ c.args.given c.in-Give.is c.requires.0 c.requires.1 in
    record { some = may.some; lands = may.comes; ready = may.ready; suits = may.fits; casts = may.bare }

pub unreachable-requires : goal.unreachable-requires
unreachable-requires c =
    let b = c.self-in_default.inside.base in
    let p = c.self-in_default.inside.part in
    let needs = to-needs b p (ap (λ (r : Readied). r.node) c.self-in_default.view_is) c.self-in_default.invariant c.args.change _ c.args.given refl c.requires.0 c.requires.1 in
    only-to c.args.self.now c.args.given c.args.change needs c.in_default.not-Give

pub returns : goal.returns
returns c =
    to-steps c.self.inside.base c.self.inside.part (ap (λ (r : Readied). r.node) c.self.view_is) c.self.invariant c.args.change _ c.args.given _ c.in-Give.is c.come.ensures
