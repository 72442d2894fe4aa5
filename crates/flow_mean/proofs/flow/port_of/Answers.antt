use Rattle.std.proofs.Common.{ap, ◌∙◌}
use Rattle.flow_mean.specs.Maps.{map_of, has_repeat}
use Rattle.flow_mean.proofs.Brought.{brought-of}
use Rattle.flow_mean.proofs.flow.port_of.Goals as goal

pub returns-clause-map : goal.returns-clause-map
returns-clause-map c = c.in_ok-arrived.ensures.map ∙ ap map_of (brought-of c.args.puts.now c.args.sources.now c.args.passed.now c.args.place c.replace-put.result c.in_ok-all.all c.index-puts-place.result c.as_slice.result.now c.index-sources-place.result c.requires.puts c.replace-put.ensures.value c.requires.sources (c.as_slice.ensures ∙ c.index-sources-place.is) c.in_ok-all.ensures)

pub returns-clause-repeats : goal.returns-clause-repeats
returns-clause-repeats c = c.in_ok-arrived.ensures.repeats ∙ ap has_repeat (brought-of c.args.puts.now c.args.sources.now c.args.passed.now c.args.place c.replace-put.result c.in_ok-all.all c.index-puts-place.result c.as_slice.result.now c.index-sources-place.result c.requires.puts c.replace-put.ensures.value c.requires.sources (c.as_slice.ensures ∙ c.index-sources-place.is) c.in_ok-all.ensures)
