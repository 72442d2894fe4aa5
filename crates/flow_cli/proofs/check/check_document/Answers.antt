use Rattle.std.proofs.Common.{sym, rules}
use Rattle.flow_body.specs.Shelves.{meanings_of_shelf}
use Rattle.flow_cli.proofs.CheckLemmas.{ended_as, found_loose, loose_text_is}
use Rattle.flow_cli.proofs.check.check_document.Goals as goal

pub returns-in-Err-Loose-clause-ended : goal.returns-in-Err-Loose-clause-ended
returns-in-Err-Loose-clause-ended g c =
    let meanings = meanings_of_shelf (λ n. (goal.Body-dyn g (n.body.vtable, n.body.value)).pure n.body.value) (λ n. (goal.Body-dyn g (n.body.vtable, n.body.value)).single n.body.value) (λ n. (goal.Body-dyn g (n.body.vtable, n.body.value)).out n.body.value) c.args.shelf.now.bodies.items in
    let fails = found_loose meanings c.args.doc.now c.judged.result c.in-Err-Loose.loose (search rules) c.judged.ensures in
    ended_as _ _ _ _ _ (sym (loose_text_is meanings c.args.doc.now c.in-Err-Loose.loose c.requires.built fails)) c.print_loose.ensures.ended
