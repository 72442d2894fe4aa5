use Rattle.std.proofs.Common.{◌≡◌, ◌<◌, ◌∷◌, ℕ, Ok, ap, sym, ◌∙◌, codes, Option, List, subst, rules}
use Rattle.flow_report.specs.Words.{lines}
use Rattle.flow_cli.specs.Check.{check_lines, check_text}
use Rattle.flow_cli.proofs.CheckLemmas.{meant_text, meant_whole, meant_part, meant_cut, no_memory_after}
use Rattle.flow_cli.proofs.check.print_meaning.Goals as goal

pub returns-in-Ok-clause-ended : goal.returns-in-Ok-clause-ended
returns-in-Ok-clause-ended g c = meant_whole _ _ (meant_text _ _ _ _ c.requires.fits c.requires.determinate c.requires.whole) _ _ c.in-Ok.ensures.ok

pub returns-in-Err-Write-clause-ended : goal.returns-in-Err-Write-clause-ended
returns-in-Err-Write-clause-ended g c = meant_part _ _ (meant_text _ _ _ _ c.requires.fits c.requires.determinate c.requires.whole) _ _ c.print_sinks_of.ensures.part

pub returns-in-Err-Cut-clause-ended : goal.returns-in-Err-Cut-clause-ended
returns-in-Err-Cut-clause-ended g c = meant_cut _ _ (meant_text _ _ _ _ c.requires.fits c.requires.determinate c.requires.whole) _ _ _ _ (c.in-Err-Cut.ensures.begun (search rules)) c.send_cut.ensures.same c.send_cut.ensures.status

pub returns-in-Err-Memory-clause-ended : goal.returns-in-Err-Memory-clause-ended
returns-in-Err-Memory-clause-ended g c = no_memory_after _ _ _ _ _ (c.in-Err-Memory.ensures.unbegun (search rules)) c.tell_no_memory.ensures.said
