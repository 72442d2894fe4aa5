use Rattle.std.proofs.lemmas.Option.{slice_get-map}
use Rattle.std.proofs.Common.{ap, ◌∙◌}
use Rattle.std.specs.Option.{option_map}
use Rattle.flow_report.specs.Sinks.{pair_line}
use Rattle.flow_print.proofs.Moving.{adds_found}
use Rattle.flow_print.proofs.sections.PairsLines.add_line.Goals as goal

pub returns : goal.returns
returns g c =
    let p = c.in-Some.pair in
    adds_found c.add_pair.result _ _ _ _ (pair_line (p.0, p.1.now))
    (slice_get-map pair_line (g.H.Holdings.pairs c.args.self.now.holdings.now c.args.self.now.number) c.args.at ∙ ap (option_map pair_line) c.in-Some.ensures)
    c.add_pair.ensures
