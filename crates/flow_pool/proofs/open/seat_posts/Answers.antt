use Rattle.std.proofs.Common.{◌≡◌, ◌∙◌, ◌<◌, length, refl, sym, arith}
use Rattle.std.proofs.lemmas.List.{length-set}
use Rattle.flow_pool.proofs.Opening.{begun_with, seats_stay, seats_more, seated}
use Rattle.flow_pool.proofs.open.seat_posts.Goals as goal

pub loop-place-preserved : goal.loop-place-preserved
loop-place-preserved c =
    let h = c.loop-place.invariant in
    let pool = c.args.pool.now in
    let list = c.reaches_of.new.list.items in
    let place = c.loop-place.place in
    let same = c.reaches_of.ensures.same in
    let given = c.in_ok-reaches.ensures.reaches in
    let test = c.loop-place-test.true in
    let end = c.len-place-end.ensures in
    let ok = c.args.list.now.ok.0 in
    let long = h.1 in
    let still = same.0 in
    let l : place < length list = omega arith in (
      begun_with pool list place c.index_mut.result.now _ c.reaches_of.ensures.begun l c.index_mut.ensures.value refl refl refl given.1,
      length-set list place _ ∙ (still ∙ long),
      seats_more pool place list _ (seats_stay pool place c.loop-place.list.items list h.2 same) given.0,
    )

pub returns : goal.returns
returns c =
    let h = c.loop-place.invariant in
    let test = c.loop-place-test.false in
    let within = c.loop-place.auto.place-end in
    let end = c.len-place-end.ensures in
    let ok = c.args.list.now.ok.0 in
    let long = h.1 in
    let all : c.loop-place.place ≡ length c.loop-place.list.items = omega arith in
    (sym h.0.0, seated c.args.pool.now c.loop-place.place c.loop-place.list.items h.0 all h.2)
