use Rattle.flow_mean.proofs.Grouped.{late-from}
use Rattle.flow_mean.proofs.judge.late.Goals as goal

pub returns : goal.returns
returns g c =
    late-from _ c.args.doc.now c.args.flow.now c.as_slice.result.now c.repeating.result c.unsorted.result c.cancelled.result c.loose_at-repeat.result c.loose_at-sink.result c.loose_at-cancel.result c.either.result c.either-2.result
    c.requires.whole c.as_slice.ensures.value c.repeating.ensures.first c.loose_at-repeat.ensures c.unsorted.ensures.first c.loose_at-sink.ensures c.cancelled.ensures.first c.loose_at-cancel.ensures c.either.ensures c.either-2.ensures
