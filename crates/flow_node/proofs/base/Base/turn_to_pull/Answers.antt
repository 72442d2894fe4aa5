use Rattle.std.proofs.Common.{rules, not, eqb}
use Rattle.std.proofs.lemmas.Fn.{filter_same}
use Rattle.flow_node.proofs.base.Base.turn_to_pull.Goals as goal

pub returns-clause-items : goal.returns-clause-items
returns-clause-items c =
    filter_same _ (λ x. not (eqb x c.args.edge)) _ (λ x b g r. (search (rules, r), search (rules, r))) _ _ c.retain.ensures.filtered
