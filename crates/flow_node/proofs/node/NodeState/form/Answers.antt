use Rattle.std.proofs.Common.{◌≡◌, ◌+◌, ◌≤◌, ◌<◌, true, ltb, refl, ap, arith, length}
use Rattle.std.specs.Prelude.{is_some}
use Rattle.std.proofs.lemmas.Bool.{ltb-true}
use Rattle.flow_item.proofs.Tests.{and_left, and_right}
use Rattle.flow_machine.specs.Offers.{next_tuple}
use Rattle.flow_node.specs.Readied.{Readied}
use Rattle.flow_node.specs.Kept.{place_of, part_of, can_form, coming_of}
use Rattle.flow_node.proofs.NodeLemmas.{kept-step, formed-coming, formed-counted, formed-after}
use Rattle.flow_node.proofs.node.NodeState.form.Goals as goal

pub form-requires : goal.form-requires
form-requires c =
    let b = c.self.inside.base in
    let p = c.self.inside.part in
    let forms = rw (← c.self.view_is) at c.requires.room in
    record {
      some = rw (← c.self.view_is) at c.requires.some;
      room = and_left (can_form p) (ltb b.made 18446744073709551615) forms;
    }

pub overflow_add-self : goal.overflow_add-self
overflow_add-self c =
    let b = c.self.inside.base in
    let p = c.self.inside.part in
    let forms = rw (← c.self.view_is) at c.requires.room in
    let small : b.made < 18446744073709551615 = ltb-true _ _ (and_right (can_form p) (ltb b.made 18446744073709551615) forms) in
    omega arith

pub invariant_of-self : goal.invariant_of-self
invariant_of-self c =
    let b = c.self.inside.base in
    let p = c.self.inside.part in
    let some : is_some (next_tuple (place_of b p) (part_of p)) ≡ true = rw (← c.self.view_is) at c.requires.some in
    let forms = rw (← c.self.view_is) at c.requires.room in
    let small : b.made < 18446744073709551615 = ltb-true _ _ (and_right (can_form p) (ltb b.made 18446744073709551615) forms) in
    let none : length (coming_of p) ≡ 0 = ap length (formed-coming b p some) in
    let fits : b.made + 1 + length (coming_of p) ≤ 18446744073709551615 = omega arith in
    kept-step b record b { made = b.made + 1; due = true } p c.form.new.self c.self.invariant c.form.ensures refl (formed-counted b p (b.made + 1) c.args.no some) fits

pub returns : goal.returns
returns c =
    let b = c.self.inside.base in
    let p = c.self.inside.part in
    formed-after b p c.form.new.self c.args.no (ap (λ (r : Readied). r.node) c.self.view_is) c.form.ensures.kind c.form.ensures.is
