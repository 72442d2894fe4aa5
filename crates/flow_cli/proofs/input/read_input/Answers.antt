use Rattle.std.proofs.Common.{rules}
use Rattle.flow_cli.proofs.PlainLemmas.{reads_fault}
use Rattle.flow_cli.proofs.input.read_input.Goals as goal

pub returns-clause-reads : goal.returns-clause-reads
returns-clause-reads g c = reads_fault _ _ _ c.in-Err.fault c.in-Ok.bytes.items c.in-Ok.ensures.all c.in-Ok.ensures.end c.in-Ok.ensures.short (search rules)
