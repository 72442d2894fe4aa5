use Rattle.flow_print.proofs.Reporting.{part_written, part_sent, all_sent, on_ok}
use Rattle.flow_print.proofs.section.write_section.Goals as goal

pub returns-in-Ok-clause-ok : goal.returns-in-Ok-clause-ok
returns-in-Ok-clause-ok g c = on_ok c.send_all.result _ _ (λ sent. all_sent _ _ _ _ _ _ c.new-pending.ensures.items c.in-Ok.ensures.ok sent) c.send_all.ensures.ok

pub returns-in-Ok-clause-part : goal.returns-in-Ok-clause-part
returns-in-Ok-clause-part g c = part_sent _ _ _ _ _ _ c.new-pending.ensures.items c.in-Ok.ensures.ok c.send_all.ensures.part

pub returns-in-Err-Write-clause-part : goal.returns-in-Err-Write-clause-part
returns-in-Err-Write-clause-part g c = part_written _ _ _ _ c.new-pending.ensures.items c.in-Err-Write.ensures.err

pub returns-in-Err-Memory-clause-part : goal.returns-in-Err-Memory-clause-part
returns-in-Err-Memory-clause-part g c = part_written _ _ _ _ c.new-pending.ensures.items c.in-Err-Memory.ensures.err

pub returns-clause-part : goal.returns-clause-part
returns-clause-part g c = part_written _ _ _ _ c.new-pending.ensures.items c.in-Err-Cut.ensures.err
