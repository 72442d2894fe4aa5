use Rattle.std.proofs.Common.{◌∙◌, string_bytes}
use Rattle.flow_gen.proofs.SummaryLemmas.{summary_is}
use Rattle.flow_gen.proofs.summaries.summary.Goals as goal

pub returns : goal.returns
returns c = summary_is c.args.count c.args.doc.now c.args.journal.now c.args.nodes.now c.args.status c.sink_count-lines.result c.sink_sum-sum.result c.as_str.result.now (string_bytes c.in_ok-text.text) c.requires.states c.sink_count-lines.ensures c.sink_sum-sum.ensures (c.as_str.ensures.value ∙ c.in_ok-last.ensures) c.in_ok-text.ensures
