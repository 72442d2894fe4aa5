use Rattle.std.proofs.Common.{◌+◌, ◌<◌, ◌≡◌, sym, subst, length, List, arith}
use Rattle.flow_pool.specs.Posts.{Each}
use Rattle.flow_pool.proofs.Opening.{Thief, Reaches, one_more, reached}
use Rattle.flow_pool.proofs.open.add_thieves.Goals as goal

pub loop-place-preserved : goal.loop-place-preserved
loop-place-preserved c =
    let h = c.loop-place.invariant in
    let list = c.args.list.now.items in
    let test = c.loop-place-test.true in
    let end = c.len-place-end.ensures in
    let ok = c.args.list.now.ok.0 in
    let l : c.loop-place.place < length list = omega arith in
    let more = one_more list c.loop-place.pool.thieves.items c.loop-place.place c.in_ok-stealer.field-0 c.index.result.now h.2 l c.index.ensures c.in_ok-stealer.ensures c.requires.flavors h.3 in
    let is = c.in_ok-push.ensures.items in
    (h.0, h.1, subst (λ (l : List Thief). length l ≡ c.loop-place.place + 1) (sym is) more.0, subst (λ (l : List Thief). Each (Reaches list) l) (sym is) more.1)

pub returns-clause-reached : goal.returns-clause-reached
returns-clause-reached c =
    let h = c.loop-place.invariant in
    let test = c.loop-place-test.false in
    let end = c.len-place-end.ensures in
    let within = c.loop-place.auto.place-end in
    let ok = c.args.list.now.ok.0 in
    let so_far = h.2 in
    let long : length c.loop-place.pool.thieves.items ≡ length c.args.list.now.items = omega arith in
    (long, reached c.args.list.now.items c.loop-place.pool.thieves.items long h.3)
