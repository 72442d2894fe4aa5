use Rattle.flow_machine.specs.PrintOrder.{items_in_order}
use Rattle.flow_gen.specs.Sums.{first_pairs}
use Rattle.flow_gen.proofs.SummaryLemmas.{count_shown}
use Rattle.flow_gen.proofs.summaries.sink_count.Goals as goal

pub returns-in-Some : goal.returns-in-Some
returns-in-Some c = let v = c.in-Some.node.now.node in count_shown (first_pairs c.args.doc.now.sinks c.args.nodes.now) (items_in_order v.place.kind v.state.part) c.item_count.result c.in-Some.ensures c.item_count.ensures
