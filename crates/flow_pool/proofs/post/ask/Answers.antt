use Rattle.std.proofs.Common.{◌∙◌, sym, ap, subst}
use Rattle.std.proofs.lemmas.List.{map-set, get_or-map}
use Rattle.crossbeam_deque.specs.Handles.{view}
use Rattle.flow_pool.specs.Rule.{HasAsked}
use Rattle.flow_pool.proofs.post.ask.Goals as goal

pub returns-clause-asked : goal.returns-clause-asked
returns-clause-asked g c =
    let reaches = c.args.reaches.now.items in
    let k = c.args.k in
    let now = c.index_mut.result.now in
    let new = c.steal.new.reach in (
      view new,
      map-set view reaches k new,
      λ d. subst (λ h. HasAsked c.steal.result h (view new)) (ap view c.index_mut.ensures.value ∙ sym (get_or-map view reaches k now d c.requires.place.1)) c.steal.ensures.asked,
    )
