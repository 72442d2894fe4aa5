use Rattle.std.proofs.Common.{◌≡◌, true, refl, arith}
use Rattle.std.specs.List.{list_any}
use Rattle.flow_machine.specs.Offers.{candidates}
use Rattle.flow_machine.specs.Enabled.{is_numbered}
use Rattle.flow_node.specs.Kept.{part_of, place_of, state_of}
use Rattle.flow_node.proofs.StoreLemmas.{counted-given, given-fits}
use Rattle.flow_node.proofs.NodeLemmas.{kept-step}
use Rattle.flow_node.proofs.node.NodeState.give.Goals as goal

pub give-requires-clause-fits : goal.give-requires-clause-fits
give-requires-clause-fits c =
    let b = c.self.inside.base in
    let p = c.self.inside.part in
    let allowed : list_any (is_numbered c.args.no) (candidates (place_of b p) (state_of b p) c.args.edge) ≡ true = rw (← c.self.view_is) at c.requires in
    given-fits (place_of b p) b.push.items c.args.edge b.made c.args.no (part_of p) allowed c.self.invariant.counted (omega (arith, c.self.invariant.numbers))

pub invariant_of-self : goal.invariant_of-self
invariant_of-self c =
    let b = c.self.inside.base in
    let p = c.self.inside.part in
    let allowed : list_any (is_numbered c.args.no) (candidates (place_of b p) (state_of b p) c.args.edge) ≡ true = rw (← c.self.view_is) at c.requires in
    kept-step b record b { due = true } p c.give.new.self c.self.invariant c.give.ensures refl
    (counted-given (place_of b p) b.push.items c.args.edge b.made c.args.no (part_of p) allowed c.self.invariant.counted) c.self.invariant.numbers
