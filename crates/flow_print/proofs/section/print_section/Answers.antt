use Rattle.std.proofs.Common.{◌++◌, ◌∷◌, ◌∙◌, [], codes, decimal, ap}
use Rattle.flow_report.specs.Words.{line, with_newline}
use Rattle.flow_report.specs.Sinks.{sinks_line, all_sink_lines}
use Rattle.flow_print.proofs.Moving.{on_err, stops_here, ok_head, err_head}
use Rattle.flow_print.proofs.section.print_section.Goals as goal

pub returns-in_err-add_head-clause-err : goal.returns-in_err-add_head-clause-err
returns-in_err-add_head-clause-err g c = on_err _ _ (stops_here _ _ _)

pub returns-clause-ok : goal.returns-clause-ok
returns-clause-ok g c =
    ok_head c.print_sinks.result (sinks_line c.args.sinks.now) (all_sink_lines c.args.names.now (g.H.Holdings.pairs c.args.holdings.now) c.args.sinks.now) _ _ _ _ _ (c.in_ok-add_head.ensures ∙ ap (λ n. c.args.pending.now.items ++ with_newline (line (codes "sinks" ∷ decimal n ∷ []))) c.len.ensures) c.print_sinks.ensures.ok

pub returns-clause-err : goal.returns-clause-err
returns-clause-err g c =
    err_head c.print_sinks.result (sinks_line c.args.sinks.now) (all_sink_lines c.args.names.now (g.H.Holdings.pairs c.args.holdings.now) c.args.sinks.now) _ _ _ _ (c.in_ok-add_head.ensures ∙ ap (λ n. c.args.pending.now.items ++ with_newline (line (codes "sinks" ∷ decimal n ∷ []))) c.len.ensures) c.print_sinks.ensures.err
