use Rattle.std.proofs.Common.{◌≡◌, ◌∙◌, ◌+◌, ◌++◌, ◌∷◌, ◌<◌, ◌&&◌, [], ℕ, List, Some, None, Bool, not, cond, nat_eq, map, length, slice_set, slice_index_or, ap, sym, subst, arith, heap_items}
use Rattle.std.proofs.Math.ListN.{length-set}
use Rattle.std.proofs.lemmas.List.{length-map}
use Rattle.flow_item.specs.declared.item.Item.{Item}
use Rattle.flow_item.specs.Lists.{change_at}
use Rattle.flow_join.specs.Tags.{RoomyPort}
use Rattle.flow_join.specs.Keys.{RoomyKeyJoin, port_items, at_each, count_tag}
use Rattle.flow_join.proofs.Ports.{map-set-change}
use Rattle.flow_join.proofs.Changes.{get-index, each-others, each-kept}
use Rattle.flow_join.proofs.Counts.{added}
use Rattle.flow_join.proofs.key.KeyJoin.accept.Goals as goal

pub accept-requires : goal.accept-requires
accept-requires c =
    let i = c.self.inside in
    let inside = subst (λ (v : RoomyKeyJoin). c.args.port < length v.ports) (sym c.self.view_is) c.requires.port in
    let within : c.args.port < length i.ports.items = omega (arith, length-map i.ports.items port_items) in
    let ready : i.ready_for ≡ Some (c.args.port, c.args.item.tag) = ap (λ (v : RoomyKeyJoin). v.ready_for) c.self.view_is ∙ c.requires.ready in
    c.self.invariant.ready (c.args.port, c.args.item.tag) c.index_mut-at.result.now ready (get-index i.ports.items c.args.port c.index_mut-at.result.now within c.index_mut-at.ensures.value)

pub invariant_of-self : goal.invariant_of-self
invariant_of-self c =
    let i = c.self.inside in
    let ps = i.ports.items in
    let tag = c.args.item.tag in
    let p = c.index_mut-at.result.now in
    let q = c.accept.new.self in
    let qs = slice_set ps c.args.port q in
    let f : List Item → List Item = λ is. is ++ c.args.item ∷ [] in
    let came = map-set-change port_items f ps c.args.port q p (ap port_items c.accept.ensures ∙ ap (λ (r : RoomyPort). f r.items) c.index_mut-at.ensures.value) in
    let was = c.at_each-was.ensures ∙ ap (at_each tag) c.deref.ensures.value in
    let now = c.at_each-now.ensures ∙ ap (at_each tag) c.deref-2.ensures.value in
    let same = length-set ps c.args.port q in
    let some = c.self.invariant.some in
    let few = c.self.invariant.few in
    record {
      some = omega arith;
      few = omega arith;
      ordered = c.add_tag.ensures.ordered;
      counted = added tag (λ t. at_each t ps) (λ t. at_each t qs) (λ t. count_tag t (heap_items i.complete)) (λ t. count_tag t (heap_items c.add_tag.new.heap)) c.self.invariant.counted
          (λ t. c.add_tag.ensures.tags t ∙ (λ j. cond (not (was j) && now j) (cond (nat_eq tag t) 1 0) 0 + count_tag t (heap_items i.complete)))
          (each-kept ps qs c.args.item c.args.port came) (each-others ps qs c.args.item c.args.port came);
      ready = λ r s e at. cc;
      room = λ r e. cc;
    }

pub returns : goal.returns
returns c =
    let ps = c.self.inside.ports.items in
    let p = c.index_mut-at.result.now in
    let q = c.accept.new.self in
    let f : List Item → List Item = λ is. is ++ c.args.item ∷ [] in
    let made : List (List Item) → RoomyKeyJoin = λ iss. record { ports = iss; ready_for = None } in
    let came = map-set-change port_items f ps c.args.port q p (ap port_items c.accept.ensures ∙ ap (λ (r : RoomyPort). f r.items) c.index_mut-at.ensures.value) in
    ap made (came ∙ ap (λ (v : RoomyKeyJoin). change_at f c.args.port v.ports) c.self.view_is)
