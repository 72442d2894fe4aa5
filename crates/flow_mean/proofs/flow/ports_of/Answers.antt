use Rattle.std.proofs.Common.{◌≡◌, ◌<◌, ◌∙◌, ap, arith, rules}
use Rattle.flow_mean.specs.Passing.{brought_to, maps_at, repeats_at}
use Rattle.flow_mean.proofs.Brought.{maps-on, repeats-on, others-on, left-on}
use Rattle.flow_mean.proofs.flow.ports_of.Goals as goal

pub loop-port-preserved : goal.loop-port-preserved
loop-port-preserved c =
    let small : c.loop-port.port < 8 = omega (arith, c.loop-port-test.true, c.requires.ports) in
    record {
      size = search rules;
      maps = maps-on c.args.puts.now c.loop-port.puts c.args.sources.now c.args.passed.now c.args.node c.loop-port.port (c.loop-port.invariant.left c.loop-port.port (omega arith) small) c.loop-port.maps.items c.push.new.self.items c.in_ok-arrived.arrived.map (search rules) c.in_ok-arrived.ensures.map c.loop-port.invariant.maps;
      repeats = repeats-on c.args.puts.now c.loop-port.puts c.args.sources.now c.args.passed.now c.args.node c.loop-port.port (c.loop-port.invariant.left c.loop-port.port (omega arith) small) c.loop-port.repeats c.is_either-repeats.result c.in_ok-arrived.arrived.repeats c.is_either-repeats.ensures c.in_ok-arrived.ensures.repeats c.loop-port.invariant.repeats;
      left = left-on c.args.puts.now c.loop-port.puts c.port_of.new.puts c.args.node c.loop-port.port small c.port_of.ensures.others c.loop-port.invariant.left;
      others = others-on c.args.puts.now c.loop-port.puts c.port_of.new.puts c.args.node c.loop-port.port small c.port_of.ensures.others c.loop-port.invariant.others;
    }

pub returns-in_err-arrived-clause-others : goal.returns-in_err-arrived-clause-others
returns-in_err-arrived-clause-others c =
    let small : c.loop-port.port < 8 = omega (arith, c.loop-port-test.true, c.requires.ports) in
    others-on c.args.puts.now c.loop-port.puts c.port_of.new.puts c.args.node c.loop-port.port small c.port_of.ensures.others c.loop-port.invariant.others

pub returns-in_err-push-clause-others : goal.returns-in_err-push-clause-others
returns-in_err-push-clause-others c =
    let small : c.loop-port.port < 8 = omega (arith, c.loop-port-test.true, c.requires.ports) in
    others-on c.args.puts.now c.loop-port.puts c.port_of.new.puts c.args.node c.loop-port.port small c.port_of.ensures.others c.loop-port.invariant.others

pub returns-clause-maps : goal.returns-clause-maps
returns-clause-maps c =
    let whole : c.loop-port.port ≡ c.args.ports = omega (arith, c.loop-port-test.false, c.loop-port.auto.port-end) in
    c.loop-port.invariant.maps ∙ ap (maps_at (brought_to c.args.puts.now c.args.sources.now c.args.passed.now c.args.node)) whole

pub returns-clause-repeats : goal.returns-clause-repeats
returns-clause-repeats c =
    let whole : c.loop-port.port ≡ c.args.ports = omega (arith, c.loop-port-test.false, c.loop-port.auto.port-end) in
    c.loop-port.invariant.repeats ∙ ap (repeats_at (brought_to c.args.puts.now c.args.sources.now c.args.passed.now c.args.node)) whole
