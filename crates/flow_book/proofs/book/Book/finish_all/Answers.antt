use Rattle.std.proofs.Common.{sym, ap, ◌∙◌}
use Rattle.flow_shape.specs.Kinds.{is_input}
use Rattle.flow_shape.specs.Wiring.{at_node}
use Rattle.flow_book.specs.Jobs.{outs_in}
use Rattle.flow_book.specs.Callers.{number_of}
use Rattle.flow_book.proofs.Ended.{all-answers, ended-is, halted-is, whole-end, outs-end}
use Rattle.flow_book.proofs.book.Book.finish_all.Goals as goal

pub end_job-requires-clause-outs : goal.end_job-requires-clause-outs
end_job-requires-clause-outs g c = λ κs lives.
    all-answers c.args.self.now.run c.args.self.now.items c.args.self.now.events c.args.w.now.about c.args.job c.args.outs c.requires.of c.requires.runs.1 c.requires.outs c.requires.all

pub returns-in-Ok-clause-ended : goal.returns-in-Ok-clause-ended
returns-in-Ok-clause-ended g c =
    ended-is c.args.self.now.run.shape c.args.w.now c.end_job.new.w c.args.job c.args.outs c.args.outs
    (sym (whole-end (at_node c.args.self.now.run.shape c.args.job.node is_input) c.args.outs c.requires.all)) c.in-Ok.ensures.ended

pub returns-in-Err-clause-stopped : goal.returns-in-Err-clause-stopped
returns-in-Err-clause-stopped g c =
    halted-is c.args.self.now.run.shape c.args.w.now c.end_job.new.w c.args.job c.args.outs c.args.outs c.in-Err.field-0.stop c.in-Err.ensures.refused.0
    (sym (whole-end (at_node c.args.self.now.run.shape c.args.job.node is_input) c.args.outs c.requires.all)) c.in-Err.ensures.refused.1

pub returns-in-Err-clause-outs : goal.returns-in-Err-clause-outs
returns-in-Err-clause-outs g c =
    c.outs_in.ensures ∙ (ap outs_in c.in-Err.ensures.refused.2
    ∙ outs-end c.args.w.now.kept c.in-Err.field-0.stop (number_of c.args.w.now.party) c.args.job.node c.args.job.item.id.no c.in-Err.ensures.refused.0 c.args.outs)
