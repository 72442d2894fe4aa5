use Rattle.std.proofs.Common.{◌+◌, ◌^◌, nat_lt, ap, ◌∙◌}
use Rattle.flow_item.specs.Events.{births}
use Rattle.flow_work.specs.Runs.{Run}
use Rattle.flow_work.proofs.LimitLemmas.{over-seen}
use Rattle.flow_work.proofs.run.PlainRun.is_over.Goals as goal

pub returns : goal.returns
returns c =
    over-seen (births c.self.inside.journal.items) c.args.more c.self.inside.births c.saturating_add.result c.self.invariant.births_are c.saturating_add.ensures
    ∙ ap (λ (r : Run). nat_lt (2 ^ 63) (births r.journal + c.args.more)) c.self.view_is
