use Rattle.flow_cli.proofs.PlainLemmas.{may_print}
use Rattle.flow_cli.proofs.run.run_document.Goals as goal

pub print_arranged-requires-clause-kept : goal.print_arranged-requires-clause-kept
print_arranged-requires-clause-kept g c = may_print _ 1 c.args.doc c.run_kept.new.kept c.requires.fits c.run_kept.ensures.few c.run_kept.ensures.run.document c.run_kept.ensures.run.legal.legal

pub print_arranged-requires-in-Limit-clause-kept : goal.print_arranged-requires-in-Limit-clause-kept
print_arranged-requires-in-Limit-clause-kept g c = may_print _ 1 c.args.doc c.run_kept.new.kept c.requires.fits c.run_kept.ensures.few c.run_kept.ensures.run.document c.run_kept.ensures.run.legal.legal
