use Rattle.std.proofs.Common.{◌≡◌, ◌∙◌, ◌+◌, ◌-◌, ◌++◌, ◌<◌, ◌≤◌, ◌&&◌, [], ℕ, List, Option, Some, None, Bool, true, false, is_some, not, cond, nat_eq, eq-eqb, map, length, refl, ap, sym, subst, arith, heap_items}
use Rattle.std.proofs.lemmas.List.{length-map}
use Rattle.std.specs.Option.{unwrap_or}
use Rattle.flow_item.specs.declared.item.Item.{Item}
use Rattle.flow_item.specs.Lists.{drop_first}
use Rattle.flow_item.specs.Rooms.{roomy}
use Rattle.flow_machine.specs.Offers.{fronts, with_tag, tag_of}
use Rattle.flow_machine.specs.After.{has_tag, ports_after_form}
use Rattle.flow_machine.specs.WishEvents.{id_of}
use Rattle.flow_join.specs.Tags.{RoomyPort}
use Rattle.flow_join.specs.Keys.{RoomyKeyJoin, port_items, at_each, count_tag, next_key_parts, key_taken, IsLeastTag}
use Rattle.flow_join.proofs.Changes.{each-dropped, dropped-count}
use Rattle.flow_join.proofs.Counts.{moved, popped-some}
use Rattle.flow_join.proofs.Matching.{each-counted, heap-some, parts-are, tag-is}
use Rattle.flow_join.proofs.key.KeyJoin.form.Goals as goal

pub pop_tag-tag-requires-clause-some : goal.pop_tag-tag-requires-clause-some
pop_tag-tag-requires-clause-some c =
    let i = c.self.inside in
    let ready = ap (λ (v : RoomyKeyJoin). is_some (next_key_parts v)) c.self.view_is ∙ c.requires.ready in
    let some = heap-some i.ports.items (heap_items i.complete) c.self.invariant.some c.self.invariant.counted ready in
    let long = i.complete.data.ok.0 in
    omega arith

pub invariant_of-self : goal.invariant_of-self
invariant_of-self c =
    let i = c.self.inside in
    let ps = i.ports.items in
    let x = c.pop_tag-tag.result in
    let qs = c.take_parts.new.ports.items in
    let k = c.pop_tag-tag.new.heap in
    let now = c.at_each-now.ensures ∙ ap (at_each x) c.deref.ensures.value in
    let positive = popped-some x _ _ (c.pop_tag-tag.ensures.tags x) in
    let same = dropped-count x ps qs c.take_parts.ensures.ports in
    let some = c.self.invariant.some in
    let few = c.self.invariant.few in
    record {
      some = omega arith;
      few = omega arith;
      ordered = c.add_tag.ensures.ordered;
      counted = moved x (λ t. at_each t ps) (λ t. at_each t qs) (λ t. count_tag t (heap_items i.complete)) (λ t. count_tag t (heap_items k)) (λ t. count_tag t (heap_items c.add_tag.new.heap))
          c.self.invariant.counted c.pop_tag-tag.ensures.tags
          (λ t. c.add_tag.ensures.tags t ∙ ap (λ (b : Bool). cond b (cond (nat_eq x t) 1 0) 0 + count_tag t (heap_items k)) now)
          (each-counted ps (heap_items i.complete) c.self.invariant.some c.self.invariant.counted x positive)
          (each-dropped x ps qs c.take_parts.ensures.ports);
      ready = λ r s e at. cc;
      room = λ r e. cc;
    }

pub returns-clause-join : goal.returns-clause-join
returns-clause-join c =
    let i = c.self.inside in
    let ps = i.ports.items in
    let x = c.pop_tag-tag.result in
    let found : IsLeastTag (heap_items i.complete) (Some x) = (popped-some x _ _ (c.pop_tag-tag.ensures.tags x), c.pop_tag-tag.ensures.least) in
    let tagged = tag-is ps (heap_items i.complete) c.self.invariant.some c.self.invariant.counted x found in
    let made : List (List Item) → RoomyKeyJoin = λ iss. record { ports = iss; ready_for = None } in
    ap made (c.take_parts.ensures.ports ∙ ap (λ (t : ℕ). map (drop_first (has_tag t)) (map port_items ps)) (sym tagged)
    ∙ ap (λ (v : RoomyKeyJoin). map (drop_first (has_tag (tag_of (key_taken v)))) v.ports) c.self.view_is)

pub returns-clause-ids : goal.returns-clause-ids
returns-clause-ids c =
    let i = c.self.inside in
    let ps = i.ports.items in
    let x = c.pop_tag-tag.result in
    let was = c.args.ids.now in
    let found : IsLeastTag (heap_items i.complete) (Some x) = (popped-some x _ _ (c.pop_tag-tag.ensures.tags x), c.pop_tag-tag.ensures.least) in
    let parts = sym (parts-are ps (heap_items i.complete) c.self.invariant.some c.self.invariant.counted x found) in
    let long = sym (length-map ps port_items) in
    c.take_parts.ensures.ids ∙ (λ j. roomy (was.items ++ map id_of (unwrap_or (parts j) [])) (was.spare - long j))
    ∙ ap (λ (v : RoomyKeyJoin). roomy (was.items ++ map id_of (key_taken v)) (was.spare - length v.ports)) c.self.view_is

pub returns-clause-vals : goal.returns-clause-vals
returns-clause-vals c =
    let i = c.self.inside in
    let ps = i.ports.items in
    let x = c.pop_tag-tag.result in
    let was = c.args.vals.now in
    let found : IsLeastTag (heap_items i.complete) (Some x) = (popped-some x _ _ (c.pop_tag-tag.ensures.tags x), c.pop_tag-tag.ensures.least) in
    let parts = sym (parts-are ps (heap_items i.complete) c.self.invariant.some c.self.invariant.counted x found) in
    let long = sym (length-map ps port_items) in
    c.take_parts.ensures.vals ∙ (λ j. roomy (was.items ++ map (λ (p : Item). p.val) (unwrap_or (parts j) [])) (was.spare - long j))
    ∙ ap (λ (v : RoomyKeyJoin). roomy (was.items ++ map (λ (p : Item). p.val) (key_taken v)) (was.spare - length v.ports)) c.self.view_is

pub returns-clause-tag : goal.returns-clause-tag
returns-clause-tag c =
    let i = c.self.inside in
    let x = c.pop_tag-tag.result in
    let found : IsLeastTag (heap_items i.complete) (Some x) = (popped-some x _ _ (c.pop_tag-tag.ensures.tags x), c.pop_tag-tag.ensures.least) in
    sym (tag-is i.ports.items (heap_items i.complete) c.self.invariant.some c.self.invariant.counted x found) ∙ ap (λ (v : RoomyKeyJoin). tag_of (key_taken v)) c.self.view_is
