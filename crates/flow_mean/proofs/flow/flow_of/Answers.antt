use Rattle.flow_body.specs.Shelves.{meanings_of_shelf}
use Rattle.flow_shape.proofs.Orders.{valid_joined}
use Rattle.flow_mean.proofs.Walked.{no-cycle, few-nodes, few-edges}
use Rattle.flow_mean.proofs.flow.flow_of.Goals as goal

pub order_of-requires-clause-acyclic : goal.order_of-requires-clause-acyclic
order_of-requires-clause-acyclic g c =
    let meanings = meanings_of_shelf (λ n. (goal.Body-dyn g (n.body.vtable, n.body.value)).pure n.body.value) (λ n. (goal.Body-dyn g (n.body.vtable, n.body.value)).single n.body.value) (λ n. (goal.Body-dyn g (n.body.vtable, n.body.value)).out n.body.value) c.args.shelf.now.bodies.items in
    no-cycle meanings c.args.doc.now c.requires.valid c.requires.tidy

pub outs_of-requires-clause-joined : goal.outs_of-requires-clause-joined
outs_of-requires-clause-joined g c = valid_joined c.args.doc.now.shape c.requires.valid

pub outs_of-requires-clause-few : goal.outs_of-requires-clause-few
outs_of-requires-clause-few g c = few-edges c.args.doc.now.shape c.requires.valid

pub sources_of-requires : goal.sources_of-requires
sources_of-requires g c = few-nodes c.args.doc.now.shape c.requires.valid

pub begun-requires : goal.begun-requires
begun-requires g c = few-nodes c.args.doc.now.shape c.requires.valid
