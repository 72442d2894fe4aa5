use Rattle.std.proofs.Common.{◌≡◌, ◌∙◌, ◌+◌, ◌<◌, List, [], ◌∷◌, All, length, refl, sym, ap, subst, arith}
use Rattle.std.proofs.lemmas.List.{length-append}
use Rattle.std.proofs.lemmas.List.Elements.{All-push}
use Rattle.crossbeam_deque.specs.Handles.{view}
use Rattle.flow_pool.specs.Posts.{Each, after}
use Rattle.flow_pool.specs.Opening.{IsFresh, IsBegun}
use Rattle.flow_pool.proofs.Opening.{Reach, ReachesAfter, begun_again, has_reaches, reaches_more}
use Rattle.flow_pool.proofs.Places.{each_at}
use Rattle.flow_pool.proofs.open.reaches_of.Goals as goal

pub loop-k-preserved : goal.loop-k-preserved
loop-k-preserved c =
    let h = c.loop-k.invariant in
    let pool = c.args.pool.now in
    let list = c.loop-k.list.items in
    let at = c.place_after-at.result in
    let post = c.index_mut.result.now in
    let begins = c.len-others.ensures in
    let begins_ok = c.args.list.now.ok.0 in
    let test = c.loop-k-test.true in
    let long = h.1.0 in
    let len = c.len.ensures in
    let ok = c.loop-k.list.ok.0 in
    let other = c.place_after-at.ensures.other.0 in
    let l : at < length list = omega arith in
    let many : 1 < length list = omega arith in
    let same = c.share_deque.ensures.same in
    let hands = c.share_deque.ensures.hands in
    let is = c.index_mut.ensures.value in
    let begun' = begun_again pool list at post _ h.0 l is many refl refl refl same.0 hands.0 in
    let was = each_at (IsBegun pool) list at post h.0.1 l is in
    let r = c.share_deque.result in
    let place = c.args.place in
    let k = c.loop-k.k in
    let reaches = c.loop-k.reaches.items in
    let thieves_long = h.0.0 in
    let posts : c.len.result ≡ length pool.thieves.items = omega arith in
    let is_after = c.place_after-at.ensures.place ∙ ap (λ n. after n place k) posts in
    let so_far = h.2 in
    let fresh : IsFresh pool.nodes (view r) = subst (IsFresh pool.nodes) (sym hands.1) (was.0.own_fresh.0, refl, refl) in
    let items = c.in_ok-push.ensures.items in (
      begun',
      has_reaches c.args.list.now.items list at post _ h.1 l is refl,
      subst (λ (l : List Reach). length l ≡ k + 1) (sym items) (omega (arith, length-append reaches (r ∷ []))),
      subst (λ (l : List Reach). Each (ReachesAfter pool.thieves.items place) l) (sym items) (reaches_more pool place at k reaches r post h.3 so_far was.1 same.1 is_after),
      subst (λ (l : List Reach). All (λ (x : Reach). IsFresh pool.nodes (view x)) l) (sym items) (All-push (λ (x : Reach). IsFresh pool.nodes (view x)) reaches r h.4 fresh),
    )

pub returns-in_err-push-clause-begun : goal.returns-in_err-push-clause-begun
returns-in_err-push-clause-begun c =
    let h = c.loop-k.invariant in
    let pool = c.args.pool.now in
    let list = c.loop-k.list.items in
    let at = c.place_after-at.result in
    let post = c.index_mut.result.now in
    let begins = c.len-others.ensures in
    let begins_ok = c.args.list.now.ok.0 in
    let test = c.loop-k-test.true in
    let long = h.1.0 in
    let len = c.len.ensures in
    let ok = c.loop-k.list.ok.0 in
    let other = c.place_after-at.ensures.other.0 in
    let l : at < length list = omega arith in
    let many : 1 < length list = omega arith in
    let same = c.share_deque.ensures.same in
    let hands = c.share_deque.ensures.hands in
    let is = c.index_mut.ensures.value in
    let begun' = begun_again pool list at post _ h.0 l is many refl refl refl same.0 hands.0 in
    begun'
