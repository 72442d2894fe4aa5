use Rattle.std.proofs.Common.{sym, ◌∙◌, rules}
use Rattle.flow_mean.proofs.Tuples.{tuples-some, tuples-none}
use Rattle.flow_mean.proofs.passes.add_tuple.Goals as goal

pub returns-in_ok-push : goal.returns-in_ok-push
returns-in_ok-push c = tuples-some c.args.maps.now c.args.tag c.in-Some.values c.list.result (sym c.in-Some.is ∙ c.in_ok-values.ensures) c.list.ensures c.args.tuples.now.items c.push.new.self.items (search rules)

pub returns-in_default : goal.returns-in_default
returns-in_default c = tuples-none c.args.maps.now c.args.tag (sym c.in_default.is ∙ c.in_ok-values.ensures) c.args.tuples.now.items
