use Rattle.flow_store.proofs.TagOrders.{removed, tag-missing}
use Rattle.flow_store.proofs.seq.remove_tagged.Goals as goal

pub returns-in-Some-clause-items : goal.returns-in-Some-clause-items
returns-in-Some-clause-items c =
    removed c.args.tag c.args.items.now.entries c.swap_remove_index.new.self.entries c.in-Some.place c.swap_remove_index.result
    c.in-Some.ensures.value c.in-Some.ensures.within c.swap_remove_index.ensures.entry c.swap_remove_index.ensures.entries

pub returns-in_default-clause-items : goal.returns-in_default-clause-items
returns-in_default-clause-items c = absurd (tag-missing c.get_index_of.result _ c.in_default.is c.get_index_of.ensures.found c.requires)
