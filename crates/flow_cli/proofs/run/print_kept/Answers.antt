use Rattle.std.proofs.Common.{rules}
use Rattle.flow_cli.proofs.PlainLemmas.{ended_whole, ended_part, ended_sent}
use Rattle.flow_cli.proofs.run.print_kept.Goals as goal

pub returns-in-Ok-clause-ended : goal.returns-in-Ok-clause-ended
returns-in-Ok-clause-ended g c = ended_whole c.args.options c.args.kept.now c.run_status-status.result c.run_status-status.ensures _ _ c.in-Ok.ensures.ok

pub returns-in-Err-Write-clause-ended : goal.returns-in-Err-Write-clause-ended
returns-in-Err-Write-clause-ended g c = ended_part c.args.options c.args.kept.now c.run_status-status.result c.run_status-status.ensures _ _ c.print_report_of.ensures.part

pub returns-in-Err-Cut-clause-ended : goal.returns-in-Err-Cut-clause-ended
returns-in-Err-Cut-clause-ended g c = ended_sent c.args.options c.args.kept.now c.run_status-status.result c.run_status-status.ensures _ _ _ _ (c.print_report_of.ensures.begun (search rules)) c.send_cut.ensures.same c.send_cut.ensures.status
