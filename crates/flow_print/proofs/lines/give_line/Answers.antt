use Rattle.std.proofs.Common.{◌∷◌, [], string_bytes, ◌∙◌}
use Rattle.flow_report.specs.EventLines.{land_word}
use Rattle.flow_print.proofs.Joined.{give_joined, text_same}
use Rattle.flow_print.proofs.lines.give_line.Goals as goal

pub returns : goal.returns
returns c =
    let l = c.args.link in
    let i = c.args.item.now in
    text_same string_bytes c.text_after.result _ _
    (give_joined (l.edge ∷ l.from ∷ l.to ∷ l.port ∷ i.id.no ∷ c.args.no ∷ []) i (land_word c.args.land) c.land_word.result.now _ c.land_word.ensures (c.as_str.ensures.value ∙ c.in_ok-what.ensures))
    c.text_after.ensures
