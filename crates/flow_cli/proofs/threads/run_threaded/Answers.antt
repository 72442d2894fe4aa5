use Rattle.flow_cli.proofs.PlainLemmas.{may_print}
use Rattle.flow_cli.proofs.ThreadLemmas.{built_kept, ended_memory, states_kept}
use Rattle.flow_cli.proofs.threads.run_threaded.Goals as goal

pub print_run-requires-clause-kept : goal.print_run-requires-clause-kept
print_run-requires-clause-kept g c = may_print _ _ c.args.doc c.run_kept-ended.new.kept c.requires.fits c.run_kept-ended.ensures.few c.run_kept-ended.ensures.run.document c.run_kept-ended.ensures.run.legal.legal

pub print_run-requires-clause-built : goal.print_run-requires-clause-built
print_run-requires-clause-built g c = built_kept c.args.doc c.run_kept-ended.new.kept c.run_kept-ended.ensures.run.document c.requires.built

pub print_run-requires-in-Err-Limit-clause-kept : goal.print_run-requires-in-Err-Limit-clause-kept
print_run-requires-in-Err-Limit-clause-kept g c = may_print _ _ c.args.doc c.run_kept-ended.new.kept c.requires.fits c.run_kept-ended.ensures.few c.run_kept-ended.ensures.run.document c.run_kept-ended.ensures.run.legal.legal

pub print_run-requires-in-Err-Limit-clause-built : goal.print_run-requires-in-Err-Limit-clause-built
print_run-requires-in-Err-Limit-clause-built g c = built_kept c.args.doc c.run_kept-ended.new.kept c.run_kept-ended.ensures.run.document c.requires.built

pub returns-in-Err-Memory-clause-ended : goal.returns-in-Err-Memory-clause-ended
returns-in-Err-Memory-clause-ended g c = ended_memory _ _ _ _ c.tell_no_memory.ensures.said

pub print_run-requires-clause-states : goal.print_run-requires-clause-states
print_run-requires-clause-states g c = states_kept c.args.doc c.run_kept-ended.new.kept c.run_kept-ended.result.1 c.run_kept-ended.ensures.run.document c.run_kept-ended.ensures.nodes

pub print_run-requires-in-Err-Limit-clause-states : goal.print_run-requires-in-Err-Limit-clause-states
print_run-requires-in-Err-Limit-clause-states g c = states_kept c.args.doc c.run_kept-ended.new.kept c.run_kept-ended.result.1 c.run_kept-ended.ensures.run.document c.run_kept-ended.ensures.nodes
