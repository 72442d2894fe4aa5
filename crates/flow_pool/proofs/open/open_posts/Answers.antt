use Rattle.std.proofs.Common.{◌≡◌, ◌∙◌, ◌+◌, List, [], ◌∷◌, length, refl, sym, ap, subst, eq-eqb, ne_eqb, arith}
use Rattle.std.proofs.lemmas.List.{length-append}
use Rattle.std.proofs.lemmas.List.Elements.{All-same, All-nil}
use Rattle.crossbeam_deque.specs.Handles.{view}
use Rattle.flow_pool.specs.declared.hand.Hand.{Hand}
use Rattle.flow_pool.specs.declared.post.Post.{Post}
use Rattle.flow_pool.specs.Posts.{Each}
use Rattle.flow_pool.specs.Opening.{IsFresh, IsOpened}
use Rattle.flow_pool.proofs.Opening.{Reach}
use Rattle.flow_pool.proofs.Places.{each_push}
use Rattle.flow_pool.proofs.open.open_posts.Goals as goal

pub loop-place-preserved : goal.loop-place-preserved
loop-place-preserved c =
    let h = c.loop-place.invariant in
    let pool = c.args.pool.now in
    let posts = c.args.posts in
    let list = c.loop-place.list.items in
    let place = c.loop-place.place in
    let test = c.loop-place-test.true in
    let entry = c.next_entry-entry.ensures in
    let f = entry.fresh pool.nodes (h.3 test) in
    let post : Post = record { place = place; own = c.in_ok-own.own; entry = c.next_entry-entry.result; reaches = c.new.result } in
    let opened : IsOpened pool posts place post = record {
      place = refl;
      flavor = c.in_ok-own.ensures.0;
      entry = entry.same.1;
      own_fresh = subst (IsFresh pool.nodes) (sym c.in_ok-own.ensures.1) ((refl, refl), refl, refl);
      entry_fresh = f.0;
      reaches_fresh = All-same (λ (r : Reach). IsFresh pool.nodes (view r)) c.new.result.items [] c.new.ensures.items (All-nil (λ (r : Reach). IsFresh pool.nodes (view r)));
      alone = λ one. (ap (λ (x : Hand). x.alone) c.in_ok-own.ensures.1, entry.alone (eq-eqb (place + 1) posts (omega arith)) ∙ h.4 (omega arith));
    } in
    let long = h.0 in
    let is = c.in_ok-push.ensures.items in (
      subst (λ (l : List Post). length l ≡ place + 1) (sym is) (omega (arith, length-append list (post ∷ []))),
      subst (λ (l : List Post). Each (IsOpened pool posts) l) (sym is) (each_push (IsOpened pool posts) list post h.1 (subst (λ q. IsOpened pool posts q post) (sym long) opened)),
      entry.same.0,
      (λ more. f.1 (ne_eqb (place + 1) posts (λ e. omega arith))),
      (λ none. absurd (omega arith)),
    )
