use Rattle.flow_cli.proofs.GenLemmas.{ended_text, ended_memory}
use Rattle.std.proofs.Common.{◌≡◌, ◌∙◌, ℕ, List, Some, ap, string_bytes, rules}
use Rattle.flow_cli.proofs.generate.print_text.Goals as goal

pub returns-in-Ok-clause-ended : goal.returns-in-Ok-clause-ended
returns-in-Ok-clause-ended g c = λ shelf has.
    let same : string_bytes c.in-Ok.text ≡ c.as_str.result.now = search rules in
    ended_text shelf c.args.count c.as_str.result.now c.say.result _ _ (c.in-Ok.ensures shelf has ∙ ap (λ (t : List ℕ). Some t) same) c.say.ensures.said

pub returns-in-Err-clause-ended : goal.returns-in-Err-clause-ended
returns-in-Err-clause-ended g c = λ shelf has. ended_memory _ c.tell_no_memory.result _ _ c.tell_no_memory.ensures.said
