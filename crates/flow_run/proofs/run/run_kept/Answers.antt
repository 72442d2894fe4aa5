use Rattle.std.proofs.Common.{◌+◌, length}
use Rattle.flow_run.proofs.Answered.{not-run, few-at-start}
use Rattle.flow_run.proofs.run.run_kept.Goals as goal

pub returns-in_default-clause-run : goal.returns-in_default-clause-run
returns-in_default-clause-run g c = not-run _ c.args.doc.now.shape c.args.doc.now.scripts (c.args.workers + length c.args.doc.now.scripts) c.args.items c.args.events c.args.kept.now.journal c.args.kept.now.refused c.requires.fresh.journal c.requires.fresh.refused

pub returns-in_default-clause-births : goal.returns-in_default-clause-births
returns-in_default-clause-births g c = few-at-start c.args.kept.now.journal c.requires.fresh.journal

pub returns-in-Err-clause-run : goal.returns-in-Err-clause-run
returns-in-Err-clause-run g c = not-run _ c.args.doc.now.shape c.args.doc.now.scripts (c.args.workers + length c.args.doc.now.scripts) c.args.items c.args.events c.args.kept.now.journal c.args.kept.now.refused c.requires.fresh.journal c.requires.fresh.refused

pub returns-in-Err-clause-births : goal.returns-in-Err-clause-births
returns-in-Err-clause-births g c = few-at-start c.args.kept.now.journal c.requires.fresh.journal
