use Rattle.std.proofs.Common.{◌≡◌, sym, ◌∙◌}
use Rattle.flow_store.specs.Orders.{ahead, precedes}
use Rattle.flow_store.proofs.Counting.{member-at, more-none}
use Rattle.flow_store.proofs.orders.nth.Goals as goal

pub returns-then-ahead-k : goal.returns-then-ahead-k
returns-then-ahead-k g c = (member-at _ c.rows.place _ c.member-item.ensures, sym c.ahead.ensures ∙ c.if-ahead-k.true)

pub rows-preserved : goal.rows-preserved
rows-preserved g c =
    more-none (λ x. ahead (precedes c.args.order) (g.R.Row.members c.args.row.now) x ≡ c.args.k) (g.R.Row.members c.args.row.now) c.rows.place c.member-item.result.now
    c.member-item.ensures c.rows.invariant (λ e. c.if-ahead-k.false (c.ahead.ensures ∙ e))
