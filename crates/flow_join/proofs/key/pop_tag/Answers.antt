use Rattle.std.proofs.Common.{heap_items}
use Rattle.flow_join.proofs.Counts.{count-popped, least-of}
use Rattle.flow_join.proofs.key.pop_tag.Goals as goal

pub returns-clause-tags : goal.returns-clause-tags
returns-clause-tags c t = count-popped t c.in-Some.field-0 (heap_items c.args.heap.now) (heap_items c.pop.new.self) c.in-Some.ensures.permutation

pub returns-clause-least : goal.returns-clause-least
returns-clause-least c = least-of c.in-Some.field-0 (heap_items c.args.heap.now) (c.in-Some.ensures.heap_order c.requires.ordered).1
