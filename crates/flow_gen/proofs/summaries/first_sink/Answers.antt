use Rattle.std.proofs.Common.{rules}
use Rattle.std.specs.Option.{option_copied}
use Rattle.flow_gen.proofs.SummaryLemmas.{first_some, first_none}
use Rattle.flow_gen.proofs.summaries.first_sink.Goals as goal

pub returns-in-Some : goal.returns-in-Some
returns-in-Some c = first_some c.args.doc.now.sinks c.in-Some.number.now c.args.nodes.now (option_copied c.find.result) (search rules) (search rules)

pub returns-in-None : goal.returns-in-None
returns-in-None c = first_none c.args.doc.now.sinks c.args.nodes.now (search rules)
