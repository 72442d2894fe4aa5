use Rattle.std.proofs.Common.{◌≡◌, ◌∙◌, ap, rules}
use Rattle.std.proofs.lemmas.Fn.{dedup_same}
use Rattle.std.proofs.lemmas.List.Sorted.{answers_always}
use Rattle.flow_mean.specs.Maps.{map_of}
use Rattle.flow_mean.proofs.Sorted.{same_tag, firsts-map}
use Rattle.flow_mean.proofs.tag_map.sorted.Goals as goal

pub returns : goal.returns
returns c =
    let rises = c.in_ok-sort_by_key.ensures.sorted (λ p. p.0) (answers_always _ _ _ (λ f a r g h. search rules)) in
    let stays = c.sort_by_key.ensures.stable (λ p. p.0) (answers_always _ _ _ (λ f a r g h. search rules)) in
    let kept = dedup_same _ same_tag _ (λ x y b f' x' y' k. search rules) _ _ c.dedup_by_key.ensures.filtered in
    c.from_vec.ensures ∙ kept ∙ firsts-map _ _ rises stays ∙ ap map_of c.into_vec-row.ensures
