use Rattle.std.proofs.Common.{◌∙◌, ap, sym, get_or, []}
use Rattle.flow_body.specs.Shelves.{meanings_of_shelf}
use Rattle.flow_mean.specs.Maps.{TagMap, join_of}
use Rattle.flow_mean.specs.Meaning.{passed_by}
use Rattle.flow_mean.proofs.ByKind.{passed-join, passed-first, passed-other}
use Rattle.flow_mean.proofs.passes.pass_all.Goals as goal

pub apply-requires-clause-function : goal.apply-requires-clause-function
apply-requires-clause-function g c = sym c.is_function.ensures ∙ c.if-is_function.true

pub returns-then-is_key_join : goal.returns-then-is_key_join
returns-then-is_key_join g c =
    let meanings = meanings_of_shelf (λ n. (goal.Body-dyn g (n.body.vtable, n.body.value)).pure n.body.value) (λ n. (goal.Body-dyn g (n.body.vtable, n.body.value)).single n.body.value) (λ n. (goal.Body-dyn g (n.body.vtable, n.body.value)).out n.body.value) c.args.shelf.now.bodies.items in
    c.in_ok-tuples.ensures ∙ ap join_of c.as_slice.ensures.value ∙ passed-join meanings c.args.kind.now c.args.maps.items (sym c.is_key_join.ensures ∙ c.if-is_key_join.true) c.requires.ports

pub returns-then-is_function : goal.returns-then-is_function
returns-then-is_function g c =
    let meanings = meanings_of_shelf (λ n. (goal.Body-dyn g (n.body.vtable, n.body.value)).pure n.body.value) (λ n. (goal.Body-dyn g (n.body.vtable, n.body.value)).single n.body.value) (λ n. (goal.Body-dyn g (n.body.vtable, n.body.value)).out n.body.value) c.args.shelf.now.bodies.items in
    c.in_ok-applied.ensures ∙ ap (λ (m : TagMap). passed_by meanings c.args.kind.now (λ port. m)) c.first.ensures ∙ passed-first meanings c.args.kind.now (λ port. get_or c.args.maps.items port []) (sym c.is_function.ensures ∙ c.if-is_function.true)

pub returns : goal.returns
returns g c =
    let meanings = meanings_of_shelf (λ n. (goal.Body-dyn g (n.body.vtable, n.body.value)).pure n.body.value) (λ n. (goal.Body-dyn g (n.body.vtable, n.body.value)).single n.body.value) (λ n. (goal.Body-dyn g (n.body.vtable, n.body.value)).out n.body.value) c.args.shelf.now.bodies.items in
    c.first-2.ensures ∙ passed-other meanings c.args.kind.now (λ port. get_or c.args.maps.items port []) c.requires.orderly c.requires.unsorted (sym c.is_key_join.ensures ∙ c.if-is_key_join.false) (sym c.is_function.ensures ∙ c.if-is_function.false)
