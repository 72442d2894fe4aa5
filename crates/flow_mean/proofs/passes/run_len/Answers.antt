use Rattle.flow_mean.proofs.Gaps.{run-on, past-on, run-here, past-here, run-all, past-all}
use Rattle.flow_mean.proofs.passes.run_len.Goals as goal

pub returns-then-pair-at-clause-run : goal.returns-then-pair-at-clause-run
returns-then-pair-at-clause-run c = run-here c.args.row.now c.loop-at.at c.index-row-at.result c.loop-at-test.true c.index-row-at.is c.if-pair-at.true c.loop-at.invariant.run

pub returns-then-pair-at-clause-past : goal.returns-then-pair-at-clause-past
returns-then-pair-at-clause-past c = past-here c.args.row.now c.loop-at.at c.index-row-at.result c.loop-at-test.true c.index-row-at.is c.if-pair-at.true c.loop-at.invariant.past

pub loop-at-preserved : goal.loop-at-preserved
loop-at-preserved c = record {
  run = run-on c.args.row.now c.loop-at.at c.index-row-at.result c.loop-at-test.true c.index-row-at.is c.if-pair-at.false c.loop-at.invariant.run;
  past = past-on c.args.row.now c.loop-at.at c.index-row-at.result c.loop-at-test.true c.index-row-at.is c.if-pair-at.false c.loop-at.invariant.past;
}

pub returns-clause-run : goal.returns-clause-run
returns-clause-run c = run-all c.args.row.now c.loop-at.at c.loop-at-test.false c.loop-at.invariant.run

pub returns-clause-past : goal.returns-clause-past
returns-clause-past c = past-all c.args.row.now c.loop-at.at c.loop-at-test.false c.loop-at.invariant.past
