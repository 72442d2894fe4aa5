use Rattle.std.proofs.Common.{◌≡◌, ◌<◌, ◌≤◌, None, length, map, ap, ◌∙◌, arith}
use Rattle.std.specs.Prelude.{slice_get}
use Rattle.flow_machine.specs.WishEvents.{id_of}
use Rattle.flow_node.specs.Joins.{ports_of, parts_of, ready_parts}
use Rattle.flow_node.proofs.JoinLemmas.{parts-count, part-there, part-missing, take-past}
use Rattle.flow_node.proofs.join.Inputs.ids.Goals as goal

pub unreachable-requires : goal.unreachable-requires
unreachable-requires c =
    let parts = ready_parts c.args.self.now in
    let there : None ≡ slice_get parts c.loop-port.port = part-there (parts_of c.args.self.now) c.loop-port.port None c.requires c.in-None.ensures in
    let count : length parts ≡ length (ports_of c.args.self.now) = parts-count c.args.self.now c.requires in
    let short : c.loop-port.port < length parts = omega arith in
    part-missing parts c.loop-port.port short there

pub returns : goal.returns
returns c =
    let parts = ready_parts c.args.self.now in
    let count : length parts ≡ length (ports_of c.args.self.now) = parts-count c.args.self.now c.requires in
    let all : length parts ≤ c.loop-port.port = omega arith in
    c.loop-port.invariant ∙ ap (map id_of) (take-past parts c.loop-port.port all)
