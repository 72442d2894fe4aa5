use Rattle.std.proofs.Common.{◌≡◌, suc, ◌+◌, sym, ap, ◌∙◌, arith, eq-eqb, drop}
use Rattle.std.specs.List.{find}
use Rattle.flow_item.specs.Values.{same_item}
use Rattle.flow_shape.specs.Wiring.{is_some_and}
use Rattle.flow_machine.specs.Enabled.{is_numbered}
use Rattle.flow_node.specs.NodeViews.{ticket_items}
use Rattle.flow_book.proofs.Equal.{ticket-items, find-at, find-next, no-more, not-eqb}
use Rattle.flow_book.proofs.ticket.has_ticket.Goals as goal

pub loop-k-init : goal.loop-k-init
loop-k-init c = ap (λ xs. is_some_and (same_item c.args.item.now) (find (is_numbered c.args.ticket) xs)) (ticket-items c.args.node.now.node.state.part)

pub returns-then-found-ticket : goal.returns-then-found-ticket
returns-then-found-ticket c =
    c.same_item.ensures ∙ (sym (ap (is_some_and (same_item c.args.item.now)) (find-at (is_numbered c.args.ticket) (ticket_items c.args.node.now.node.state.part) c.loop-k.k c.in-Some.found.now c.in-Some.ensures (eq-eqb c.in-Some.found.now.id.no c.args.ticket c.if-found-ticket.true))) ∙ c.loop-k.invariant)

pub returns-in-None : goal.returns-in-None
returns-in-None c =
    sym (ap (λ xs. is_some_and (same_item c.args.item.now) (find (is_numbered c.args.ticket) xs)) (no-more (ticket_items c.args.node.now.node.state.part) c.loop-k.k c.in-None.ensures)) ∙ c.loop-k.invariant

pub loop-k-preserved : goal.loop-k-preserved
loop-k-preserved c =
    let next : c.loop-k.k + 1 ≡ suc c.loop-k.k = omega arith in
    ap (λ n. is_some_and (same_item c.args.item.now) (find (is_numbered c.args.ticket) (drop n (ticket_items c.args.node.now.node.state.part)))) next
    ∙ (sym (ap (is_some_and (same_item c.args.item.now)) (find-next (is_numbered c.args.ticket) (ticket_items c.args.node.now.node.state.part) c.loop-k.k c.in-Some.found.now c.in-Some.ensures (not-eqb c.in-Some.found.now.id.no c.args.ticket c.if-found-ticket.false))) ∙ c.loop-k.invariant)
