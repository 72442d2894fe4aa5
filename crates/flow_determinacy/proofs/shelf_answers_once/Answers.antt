use Rattle.flow_determinacy.proofs.Bodies.{shelf-once}
use Rattle.flow_determinacy.proofs.shelf_answers_once.Goals as goal

-- the laws of the bodies' trait, at each type behind a box
pub returns : goal.returns
returns g c = shelf-once _ _ _ c.args.shelf.now.bodies.items (λ n arg tag v p s. (g.dyn-1-met g.world.𝓛 g.world.𝓜 g.world.𝓡 ((λ s x. x), (λ x. x), (λ x. x), λ x. x) n.body.vtable).0.answers_once n.body.value arg tag v p s)
