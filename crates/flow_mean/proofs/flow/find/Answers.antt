use Rattle.std.proofs.Common.{length, get_or, eqb, refl, ap, ◌∙◌}
use Rattle.flow_body.specs.Shelves.{meanings_of_shelf}
use Rattle.flow_mean.specs.Passing.{brought_to, maps_at, repeats_at}
use Rattle.flow_mean.proofs.Walked.{kind-there, kind-orderly, kind-tied, kind-ports, kind-fitting, maps-count, maps-rise, sources-within, ends-is, found-of}
use Rattle.flow_mean.proofs.flow.find.Goals as goal

pub ports_of-requires-clause-ports : goal.ports_of-requires-clause-ports
ports_of-requires-clause-ports g c =
    let meanings = meanings_of_shelf (λ n. (goal.Body-dyn g (n.body.vtable, n.body.value)).pure n.body.value) (λ n. (goal.Body-dyn g (n.body.vtable, n.body.value)).single n.body.value) (λ n. (goal.Body-dyn g (n.body.vtable, n.body.value)).out n.body.value) c.args.shelf.now.bodies.items in
    kind-ports meanings c.args.doc.now c.requires.valid c.requires.tidy c.args.node c.as_slice.result.now c.index-as_slice-node.result c.as_slice.ensures c.requires.within c.index-as_slice-node.is c.inputs.result c.inputs.ensures

pub ports_of-requires-clause-within : goal.ports_of-requires-clause-within
ports_of-requires-clause-within g c = λ port small. sources-within c.args.doc.now.shape c.args.sources.now c.args.passed.now c.args.node port c.requires.valid c.requires.sources c.requires.passed c.requires.within small

pub pass_on-requires-clause-fits : goal.pass_on-requires-clause-fits
pass_on-requires-clause-fits g c =
    let meanings = meanings_of_shelf (λ n. (goal.Body-dyn g (n.body.vtable, n.body.value)).pure n.body.value) (λ n. (goal.Body-dyn g (n.body.vtable, n.body.value)).single n.body.value) (λ n. (goal.Body-dyn g (n.body.vtable, n.body.value)).out n.body.value) c.args.shelf.now.bodies.items in
    kind-fitting meanings c.args.doc.now c.requires.valid c.requires.tidy c.args.node c.as_slice.result.now c.index-as_slice-node.result c.as_slice.ensures c.requires.within c.index-as_slice-node.is (length c.args.shelf.now.bodies.items) c.requires.kinds

pub pass_on-requires-clause-orderly : goal.pass_on-requires-clause-orderly
pass_on-requires-clause-orderly g c =
    let meanings = meanings_of_shelf (λ n. (goal.Body-dyn g (n.body.vtable, n.body.value)).pure n.body.value) (λ n. (goal.Body-dyn g (n.body.vtable, n.body.value)).single n.body.value) (λ n. (goal.Body-dyn g (n.body.vtable, n.body.value)).out n.body.value) c.args.shelf.now.bodies.items in
    kind-orderly meanings c.args.doc.now c.requires.valid c.requires.tidy c.args.node c.as_slice.result.now c.index-as_slice-node.result c.as_slice.ensures c.requires.within c.index-as_slice-node.is

pub pass_on-requires-clause-tied : goal.pass_on-requires-clause-tied
pass_on-requires-clause-tied g c =
    let meanings = meanings_of_shelf (λ n. (goal.Body-dyn g (n.body.vtable, n.body.value)).pure n.body.value) (λ n. (goal.Body-dyn g (n.body.vtable, n.body.value)).single n.body.value) (λ n. (goal.Body-dyn g (n.body.vtable, n.body.value)).out n.body.value) c.args.shelf.now.bodies.items in
    kind-tied meanings c.args.doc.now c.requires.valid c.requires.tidy c.args.node c.as_slice.result.now c.index-as_slice-node.result c.as_slice.ensures c.requires.within c.index-as_slice-node.is

pub pass_on-requires-clause-ports : goal.pass_on-requires-clause-ports
pass_on-requires-clause-ports g c = maps-count c.in_ok-ports.ports.maps.items (brought_to c.args.puts.now c.args.sources.now c.args.passed.now c.args.node) c.inputs.result _ c.inputs.ensures c.in_ok-ports.ensures.maps

pub pass_on-requires-clause-rising : goal.pass_on-requires-clause-rising
pass_on-requires-clause-rising g c = maps-rise c.in_ok-ports.ports.maps.items (brought_to c.args.puts.now c.args.sources.now c.args.passed.now c.args.node) c.inputs.result c.in_ok-ports.ensures.maps

pub returns-clause-found : goal.returns-clause-found
returns-clause-found g c = λ done new awaits before.
    let meanings = meanings_of_shelf (λ n. (goal.Body-dyn g (n.body.vtable, n.body.value)).pure n.body.value) (λ n. (goal.Body-dyn g (n.body.vtable, n.body.value)).single n.body.value) (λ n. (goal.Body-dyn g (n.body.vtable, n.body.value)).out n.body.value) c.args.shelf.now.bodies.items in
    let k = c.index-as_slice-node.result in
    found-of meanings c.args.doc.now done c.args.node k c.args.sources.now c.args.passed.now c.args.puts.now c.requires.valid c.requires.tidy
    (kind-there meanings c.args.doc.now c.requires.valid c.requires.tidy c.args.node c.as_slice.result.now c.index-as_slice-node.result c.as_slice.ensures c.requires.within c.index-as_slice-node.is)
    c.requires.sources new awaits before (eqb (get_or c.args.outs.now c.args.node 0) 0) (ends-is c.args.outs.now c.args.doc.now.shape c.args.node (get_or c.args.outs.now c.args.node 0) c.requires.outs c.requires.within refl)
    c.in_ok-passing.passing.passed c.in_ok-passing.passing.kept c.in_ok-ports.ports.repeats c.in_ok-ports.ports.maps.items
    (c.in_ok-ports.ensures.maps ∙ ap (maps_at (brought_to c.args.puts.now c.args.sources.now c.args.passed.now c.args.node)) c.inputs.ensures)
    c.in_ok-passing.ensures.passed c.in_ok-passing.ensures.kept
    (c.in_ok-ports.ensures.repeats ∙ ap (repeats_at (brought_to c.args.puts.now c.args.sources.now c.args.passed.now c.args.node)) c.inputs.ensures)
