use Rattle.std.proofs.Common.{◌≡◌, sym, ap, ◌∙◌}
use Rattle.flow_item.specs.Lists.{is_empty}
use Rattle.flow_node.specs.Parts.{FunctionView}
use Rattle.flow_node.proofs.CastLemmas.{unmet-room}
use Rattle.flow_node.proofs.FunctionLemmas.{candidates-are, open-offer, front-same, front-roomy}
use Rattle.flow_node.proofs.function.FunctionPart.give.Goals as goal

pub give-requires-clause-unmet : goal.give-requires-clause-unmet
give-requires-clause-unmet c =
    let outs = c.args.base.now.outs.items in
    let o = open-offer outs c.args.self.now.outbox c.args.edge (sym (ap is_empty (candidates-are c.args.base.now c.args.self.now c.args.edge)) ∙ c.requires.open) in
    let list = ap (λ (v : FunctionView). v.outbox) c.self.view_is ∙ o.list in
    let same : c.in-Some.cast.now ≡ o.front = front-same c.self.inside.offered c.self.inside.casts.items o.front o.later c.in-Some.cast.now list c.in-Some.ensures.value in
    rw same o.away

pub give-requires-clause-room : goal.give-requires-clause-room
give-requires-clause-room c =
    let outs = c.args.base.now.outs.items in
    let o = open-offer outs c.args.self.now.outbox c.args.edge (sym (ap is_empty (candidates-are c.args.base.now c.args.self.now c.args.edge)) ∙ c.requires.open) in
    let list = ap (λ (v : FunctionView). v.outbox) c.self.view_is ∙ o.list in
    let same : c.in-Some.cast.now ≡ o.front = front-same c.self.inside.offered c.self.inside.casts.items o.front o.later c.in-Some.cast.now list c.in-Some.ensures.value in
    rw same (unmet-room outs o.front c.args.edge (front-roomy outs c.args.self.now.outbox c.args.edge c.requires.roomy o) o.over o.away)
