use Rattle.std.proofs.Common.{◌≡◌, ◌∙◌, map, ap}
use Rattle.flow_body.proofs.Shelved.{all_named, all_put}
use Rattle.flow_body.proofs.boxed.builtin_shelf.Goals as goal

pub returns-clause-shelved : goal.returns-clause-shelved
returns-clause-shelved g c =
    ap (map _) c.in_ok-shelf.ensures
    ∙ all_put _ _ _ _ _ _ _ _ _ _ _ _ _ _ _ _ _ _ _ _ _ (ap (map _) c.new-all.ensures.items) c.in_ok-put.ensures c.in_ok-put-2.ensures c.in_ok-put-3.ensures c.in_ok-put-4.ensures c.in_ok-put-5.ensures c.in_ok-put-6.ensures c.in_ok-put-7.ensures c.in_ok-put-8.ensures c.in_ok-put-9.ensures c.in_ok-put-10.ensures

pub returns-clause-builtin : goal.returns-clause-builtin
returns-clause-builtin g c = λ known.
    ap (map _) c.in_ok-shelf.ensures
    ∙ all_put _ _ _ _ _ _ _ _ _ _ _ _ _ _ _ _ _ _ _ _ _ (ap (map _) c.new-all.ensures.items) c.in_ok-put.ensures c.in_ok-put-2.ensures c.in_ok-put-3.ensures c.in_ok-put-4.ensures c.in_ok-put-5.ensures c.in_ok-put-6.ensures c.in_ok-put-7.ensures c.in_ok-put-8.ensures c.in_ok-put-9.ensures c.in_ok-put-10.ensures
    ∙ all_named _ known
