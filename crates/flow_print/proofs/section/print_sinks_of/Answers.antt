use Rattle.std.proofs.Common.{◌≡◌, ◌∷◌, ap, string_bytes, rules}
use Rattle.flow_report.specs.Words.{lines}
use Rattle.flow_report.specs.Sinks.{sinks_section}
use Rattle.flow_print.proofs.Reporting.{part_first, part_after, start_after, start_same, part_same, grows_same, line_some, on_ok}
use Rattle.flow_print.proofs.Moving.{grows_more}
use Rattle.flow_print.proofs.section.print_sinks_of.Goals as goal

pub returns-in-Ok-clause-ok : goal.returns-in-Ok-clause-ok
returns-in-Ok-clause-ok g c =
    let same : string_bytes c.in_ok-text.text ≡ c.args.head.now = search rules in
    on_ok c.write_section.result _ _
    (λ later. grows_same _ _ _ _ (ap (λ t. lines (t ∷ sinks_section c.args.names.now (g.H.Holdings.pairs c.args.holdings.now) c.args.sinks.now)) same) (grows_more _ _ _ _ _ c.in-Ok.ensures.ok later))
    c.write_section.ensures.ok

pub returns-in-Ok-clause-part : goal.returns-in-Ok-clause-part
returns-in-Ok-clause-part g c =
    let same : string_bytes c.in_ok-text.text ≡ c.args.head.now = search rules in
    part_same _ _ _ _ (ap (λ t. lines (t ∷ sinks_section c.args.names.now (g.H.Holdings.pairs c.args.holdings.now) c.args.sinks.now)) same)
    (part_after _ _ _ _ _ c.in-Ok.ensures.ok c.write_section.ensures.part)

pub returns-in-Ok-clause-begun : goal.returns-in-Ok-clause-begun
returns-in-Ok-clause-begun g c = λ cut.
    let same : string_bytes c.in_ok-text.text ≡ c.args.head.now = search rules in
    start_same _ _ _ _ (ap (λ t. lines (t ∷ sinks_section c.args.names.now (g.H.Holdings.pairs c.args.holdings.now) c.args.sinks.now)) same)
    (start_after _ _ _ _ _ (line_some (string_bytes c.in_ok-text.text)) c.in-Ok.ensures.ok c.write_section.ensures.part)

pub returns-in-Err-clause-part : goal.returns-in-Err-clause-part
returns-in-Err-clause-part g c =
    let same : string_bytes c.in_ok-text.text ≡ c.args.head.now = search rules in
    part_same _ _ _ _ (ap (λ t. lines (t ∷ sinks_section c.args.names.now (g.H.Holdings.pairs c.args.holdings.now) c.args.sinks.now)) same)
    (part_first _ _ _ _ c.in-Err.ensures.part)
