use Rattle.std.proofs.Common.{◌<◌, ◌∙◌, arith, deque_len}
use Rattle.flow_machine.specs.Enabled.{is_numbered}
use Rattle.flow_store.proofs.Firsts.{remove-first, some-of}
use Rattle.flow_store.proofs.places.remove_numbered.Goals as goal

pub returns-clause-items : goal.returns-clause-items
returns-clause-items c =
    let place = c.place_numbered-place in
    let within : place.result < deque_len c.args.items.now = omega (arith, place.ensures.within, c.args.items.now.ok.0) in
    some-of _ _ (c.remove.ensures.variant.1 within) c.remove.ensures.items ∙ remove-first (is_numbered c.args.no) _ _ place.ensures
