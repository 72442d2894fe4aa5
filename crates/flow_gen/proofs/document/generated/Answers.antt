use Rattle.std.proofs.Common.{map, rules}
use Rattle.flow_gen.proofs.Places.{none_add, none_mul, none_neg, all_found}
use Rattle.flow_gen.proofs.document.generated.Goals as goal

pub returns-in_default : goal.returns-in_default
returns-in_default g c = none_add (map (λ b. b.name) c.args.shelf.now.bodies.items) c.args.count (search rules)

pub returns-in_default-find : goal.returns-in_default-find
returns-in_default-find g c = none_mul (map (λ b. b.name) c.args.shelf.now.bodies.items) c.args.count c.in-Some.add (search rules) (search rules)

pub returns-in_default-find-2 : goal.returns-in_default-find-2
returns-in_default-find-2 g c = none_neg (map (λ b. b.name) c.args.shelf.now.bodies.items) c.args.count c.in-Some.add c.in-Some-find.mul (search rules) (search rules) (search rules)

pub returns : goal.returns
returns g c = rw (c.in_ok-with_bodies.ensures) (all_found (map (λ b. b.name) c.args.shelf.now.bodies.items) c.args.count c.in-Some.add c.in-Some-find.mul c.in-Some-find-2.neg (search rules) (search rules) (search rules))
