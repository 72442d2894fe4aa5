use Rattle.std.proofs.Common.{◌≡◌, ◌+◌, ◌<◌, suc, Some, None, length, sym, ap, ◌∙◌, arith}
use Rattle.std.specs.Prelude.{slice_get}
use Rattle.std.specs.List.{find}
use Rattle.std.specs.Option.{option_copied}
use Rattle.flow_machine.specs.Enabled.{is_numbered}
use Rattle.flow_machine.specs.WishEvents.{where_some}
use Rattle.flow_node.specs.Joins.{ports_of}
use Rattle.flow_node.proofs.JoinLemmas.{waits-here, waits-later}
use Rattle.flow_node.proofs.join.JoinPart.waiting.Goals as goal

pub returns-in-Some : goal.returns-in-Some
returns-in-Some c =
    let ports = ports_of c.args.self.now.inputs in
    let here : Some c.in-Some.item.now ≡ where_some (slice_get ports c.loop-port.port) (find (is_numbered c.args.no)) = rw (← c.self.view_is) c.in-Some.ensures in
    waits-here (is_numbered c.args.no) ports c.loop-port.port c.in-Some.item.now here ∙ c.loop-port.invariant

pub loop-port-preserved : goal.loop-port-preserved
loop-port-preserved c =
    let ports = ports_of c.args.self.now.inputs in
    let found : option_copied c.item.result ≡ where_some (slice_get ports c.loop-port.port) (find (is_numbered c.args.no)) = rw (← c.self.view_is) c.item.ensures in
    let none : None ≡ where_some (slice_get ports c.loop-port.port) (find (is_numbered c.args.no)) = sym (ap option_copied c.in_default.is) ∙ found in
    let count : c.ports-port-end.result ≡ length ports = rw (← c.self.view_is) c.ports-port-end.ensures.count in
    let short : c.loop-port.port < length ports = omega arith in
    let next : c.loop-port.port + 1 ≡ suc c.loop-port.port = omega arith in
    rw next (waits-later (is_numbered c.args.no) ports c.loop-port.port short none ∙ c.loop-port.invariant)
