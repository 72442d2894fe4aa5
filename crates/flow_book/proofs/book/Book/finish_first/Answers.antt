use Rattle.std.proofs.Common.{cond, take, [], sym, ap, ◌∙◌}
use Rattle.std.specs.Prelude.{is_none}
use Rattle.flow_item.specs.declared.event.Event.TheVariants as E
use Rattle.flow_book.specs.Callers.{number_of}
use Rattle.flow_book.proofs.Ended.{first-answer, ended-is, halted-is, outs-given}
use Rattle.flow_book.specs.Jobs.{answers_about}
use Rattle.flow_book.proofs.book.Book.finish_first.Goals as goal

pub end_job-requires-clause-outs : goal.end_job-requires-clause-outs
end_job-requires-clause-outs g c = λ κs lives.
    ap (λ o. answers_about c.args.w.now.about c.args.job.node o) c.in-Ok.ensures
    ∙ first-answer c.args.self.now.run c.args.self.now.items c.args.self.now.events c.args.w.now.about c.args.job c.args.outs c.requires.of c.requires.runs.1 c.requires.input

pub returns-in-Ok-end_job-clause-ended : goal.returns-in-Ok-end_job-clause-ended
returns-in-Ok-end_job-clause-ended g c =
    ended-is c.args.self.now.run.shape c.args.w.now c.end_job.new.w c.args.job c.args.outs c.in-Ok.first
    (c.in-Ok.ensures ∙ ap (λ b. cond b (take 1 c.args.outs) c.args.outs) (sym c.requires.input)) c.in-Ok-end_job.ensures.ended

pub returns-in-Err-clause-stopped : goal.returns-in-Err-clause-stopped
returns-in-Err-clause-stopped g c =
    halted-is c.args.self.now.run.shape c.args.w.now c.end_job.new.w c.args.job c.args.outs c.in-Ok.first c.in-Err.field-0.stop c.in-Err.ensures.refused.0
    (c.in-Ok.ensures ∙ ap (λ b. cond b (take 1 c.args.outs) c.args.outs) (sym c.requires.input)) c.in-Err.ensures.refused.1

pub returns-in-Err-clause-outs : goal.returns-in-Err-clause-outs
returns-in-Err-clause-outs g c =
    c.outs_unless_kept.ensures ∙ (ap (λ e. cond (is_none e) [] c.args.outs) c.in-Err.ensures.refused.2
    ∙ outs-given c.args.w.now.kept c.in-Err.field-0.stop (E.End (number_of c.args.w.now.party) c.args.job.node c.args.job.item.id.no c.in-Err.ensures.refused.0 c.in-Ok.first) c.args.outs)
