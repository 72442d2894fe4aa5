use Rattle.std.proofs.Common.{◌≡◌, get_or, take, Some, refl}
use Rattle.std.specs.Prelude.{slice_get}
use Rattle.std.proofs.lemmas.Option.{slice_get-get_or}
use Rattle.flow_body.specs.Shelves.{meanings_of_shelf}
use Rattle.flow_mean.proofs.Ordered.{order-awaits, order-new, order-within}
use Rattle.flow_mean.proofs.Walked.{walk-begins, walk-on, walk-ends}
use Rattle.flow_mean.proofs.flow.walk.Goals as goal

pub loop-node-init : goal.loop-node-init
loop-node-init g c =
    let meanings = meanings_of_shelf (λ n. (goal.Body-dyn g (n.body.vtable, n.body.value)).pure n.body.value) (λ n. (goal.Body-dyn g (n.body.vtable, n.body.value)).single n.body.value) (λ n. (goal.Body-dyn g (n.body.vtable, n.body.value)).out n.body.value) c.args.shelf.now.bodies.items in
    record {
      sizes = c.requires.sizes;
      known = walk-begins meanings c.args.doc.now c.args.order.now c.args.flow.now.passed.items c.args.flow.now.kept.items c.args.flow.now.puts.items c.args.flow.now.repeats.items c.requires.puts;
    }

pub visit-requires-clause-within : goal.visit-requires-clause-within
visit-requires-clause-within g c = order-within c.args.doc.now.shape c.args.order.now c.requires.order c.loop-node.node-index (get_or c.args.order.now c.loop-node.node-index 0) (slice_get-get_or c.args.order.now c.loop-node.node-index 0 c.loop-node-test.true)

pub loop-node-preserved : goal.loop-node-preserved
loop-node-preserved g c =
    let meanings = meanings_of_shelf (λ n. (goal.Body-dyn g (n.body.vtable, n.body.value)).pure n.body.value) (λ n. (goal.Body-dyn g (n.body.vtable, n.body.value)).single n.body.value) (λ n. (goal.Body-dyn g (n.body.vtable, n.body.value)).out n.body.value) c.args.shelf.now.bodies.items in
    let i = c.loop-node.node-index in
    let node = get_or c.args.order.now c.loop-node.node-index 0 in
    let at : slice_get c.args.order.now c.loop-node.node-index ≡ Some (get_or c.args.order.now c.loop-node.node-index 0) = slice_get-get_or c.args.order.now c.loop-node.node-index 0 c.loop-node-test.true in
    record {
      sizes = c.in_ok-visit.ensures.sizes;
      known = walk-on meanings c.args.doc.now c.args.order.now i node c.visit.new.self.passed.items c.visit.new.self.kept.items c.visit.new.self.puts.items c.visit.new.self.repeats.items c.loop-node-test.true refl
          (c.in_ok-visit.ensures.visited (take i c.args.order.now) (order-new c.args.doc.now.shape c.args.order.now c.requires.order i node at) (order-awaits c.args.doc.now.shape c.args.order.now c.requires.order i node at) c.loop-node.invariant.known);
    }

pub returns : goal.returns
returns g c =
    let meanings = meanings_of_shelf (λ n. (goal.Body-dyn g (n.body.vtable, n.body.value)).pure n.body.value) (λ n. (goal.Body-dyn g (n.body.vtable, n.body.value)).single n.body.value) (λ n. (goal.Body-dyn g (n.body.vtable, n.body.value)).out n.body.value) c.args.shelf.now.bodies.items in
    walk-ends meanings c.args.doc.now c.args.order.now c.requires.order c.loop-node.node-index c.loop-node.flow c.loop-node-test.false c.loop-node.invariant.sizes c.loop-node.invariant.known
