use Rattle.std.proofs.Common.{ap, refl}
use Rattle.flow_machine.specs.After.{part_after_start, part_after_shut, part_after_cancel}
use Rattle.flow_node.specs.Readied.{Readied}
use Rattle.flow_node.proofs.ChangeLemmas.{one-needs, one-steps, only-one, due-step, idle-step}
use Rattle.flow_node.proofs.node.NodeState.change_one.Goals as goal

pub come-requires : goal.come-requires
come-requires c =
    let may = one-needs c.self.inside.base c.self.inside.part (ap (λ (r : Readied). r.node) c.self.view_is) c.self.invariant c.args.change _ c.in-Put.is c.requires.0 c.requires.1 in
    record {
      some = rw (c.take_incoming-val.ensures.value) may.some;
      lands = rw (c.take_incoming-val.ensures.same) may.comes;
      ready = rw (c.take_incoming-val.ensures.same) may.ready;
      suits = rw (c.take_incoming-val.ensures.same) may.fits;
      casts = rw (c.take_incoming-val.ensures.same) may.bare;
    }

pub returns-in-Put : goal.returns-in-Put
returns-in-Put c = one-steps c.args.change _ _ c.in-Put.is (rw (c.take_incoming-val.ensures.value, c.take_incoming-val.ensures.same) at c.come.ensures)

pub returns-in-Refused : goal.returns-in-Refused
returns-in-Refused c = one-steps c.args.change _ _ c.in-Refused.is (due-step c.args.self.now c.self.inside.base c.self.inside.part c.self.inside.part (λ p. p) (ap (λ (r : Readied). r.node) c.self.view_is) refl refl)

pub end_body-requires : goal.end_body-requires
end_body-requires c = one-needs c.self.inside.base c.self.inside.part (ap (λ (r : Readied). r.node) c.self.view_is) c.self.invariant c.args.change _ c.in-End.is c.requires.0 c.requires.1

pub returns-in-End : goal.returns-in-End
returns-in-End c = one-steps c.args.change _ _ c.in-End.is c.end_body.ensures

pub form-requires : goal.form-requires
form-requires c =
    let may = one-needs c.self.inside.base c.self.inside.part (ap (λ (r : Readied). r.node) c.self.view_is) c.self.invariant c.args.change _ c.in-Form.is c.requires.0 c.requires.1 in
    record { some = may.some; room = may.ready }

pub returns-in-Form : goal.returns-in-Form
returns-in-Form c = one-steps c.args.change _ _ c.in-Form.is c.form.ensures

pub returns-in-Start : goal.returns-in-Start
returns-in-Start c =
    let s = c.start.ensures c.self.inside.base.outs.items in
    one-steps c.args.change _ _ c.in-Start.is (due-step c.args.self.now c.self.inside.base c.self.inside.part c.start.new.self part_after_start (ap (λ (r : Readied). r.node) c.self.view_is) s.kind s.is)

pub returns-in-Shut : goal.returns-in-Shut
returns-in-Shut c =
    let s = c.shut.ensures c.self.inside.base.outs.items in
    one-steps c.args.change _ _ c.in-Shut.is (due-step c.args.self.now c.self.inside.base c.self.inside.part c.shut.new.self (λ p. part_after_shut p c.in-Shut.ended) (ap (λ (r : Readied). r.node) c.self.view_is) s.kind s.is)

pub returns-in-Cancel : goal.returns-in-Cancel
returns-in-Cancel c =
    let s = c.cancel.ensures c.self.inside.base.outs.items in
    one-steps c.args.change _ _ c.in-Cancel.is (due-step c.args.self.now c.self.inside.base c.self.inside.part c.cancel.new.self part_after_cancel (ap (λ (r : Readied). r.node) c.self.view_is) s.kind s.is)

pub returns-in-Idle : goal.returns-in-Idle
returns-in-Idle c = one-steps c.args.change _ _ c.in-Idle.is (idle-step c.args.self.now c.self.inside.base c.self.inside.part (ap (λ (r : Readied). r.node) c.self.view_is))

pub unreachable-requires : goal.unreachable-requires
unreachable-requires c =
    let needs = one-needs c.self.inside.base c.self.inside.part (ap (λ (r : Readied). r.node) c.self.view_is) c.self.invariant c.args.change _ refl c.requires.0 c.requires.1 in
    only-one c.args.self.now c.args.change needs c.in_default.not-Put c.in_default.not-Refused c.in_default.not-Cancel c.in_default.not-Start c.in_default.not-End c.in_default.not-Form c.in_default.not-Shut c.in_default.not-Idle
