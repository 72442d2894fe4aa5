use Rattle.std.proofs.Common.{◌≡◌, ◌∷◌, [], ◌++◌, append_assoc, arith}
use Rattle.std.proofs.lemmas.Grind.{common_steps}
use Rattle.flow_print.proofs.Moving.{on_err, stops_here, stops_part}
use Rattle.flow_print.proofs.pages.end_line.Goals as goal

pub returns-in_err-push-clause-err : goal.returns-in_err-push-clause-err
returns-in_err-push-clause-err g c = on_err _ _ (stops_here _ _ _)

pub returns-clause-err : goal.returns-clause-err
returns-clause-err g c =
    let all : c.args.pending.now.items ++ 10 ∷ [] ≡ c.push.new.self.items = grind (arith, common_steps, append_assoc) in
    on_err _ _ (stops_part _ _ _ _ _ all c.send.ensures.part)
