use Rattle.std.proofs.lemmas.List.Sorted.{IsPermutation-map}
use Rattle.flow_store.specs.Ranks.{ranked_item}
use Rattle.flow_store.proofs.rank.pop_ranked.Goals as goal

pub returns-clause-items : goal.returns-clause-items
returns-clause-items c = IsPermutation-map ranked_item _ _ c.in-Some.ensures.permutation
