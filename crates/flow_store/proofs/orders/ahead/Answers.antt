use Rattle.std.proofs.Common.{◌≡◌, cond, ap, ◌∙◌, arith}
use Rattle.flow_store.specs.Orders.{precedes}
use Rattle.flow_store.proofs.Counting.{ahead-more, one-at_most}
use Rattle.flow_store.proofs.orders.ahead.Goals as goal

pub rows-preserved : goal.rows-preserved
rows-preserved g c =
    let before = precedes c.args.order in
    let one : c.one_where-count.result ≡ cond (before c.member.result.now c.args.item.now) 1 0 = c.one_where-count.ensures ∙ ap (λ b. cond b 1 0) c.precedes.ensures in
    let more = ahead-more before (g.R.Row.members c.args.row.now) c.rows.place c.member.result.now c.args.item.now c.member.ensures in
    let most = one-at_most (before c.member.result.now c.args.item.now) in
    record {
      counted = omega (arith, c.rows.invariant.counted, more, one);
      within = omega (arith, c.rows.invariant.within, one, most);
    }
