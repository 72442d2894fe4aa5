use Rattle.std.proofs.Common.{◌≡◌, ◌<◌, List, ℕ, Some, false, [], length, get_or, drop, arith, sym, ap, subst, eqb, ◌∙◌}
use Rattle.flow_shape.specs.Orders.{Sorts}
use Rattle.flow_item.specs.Lists.{places}
use Rattle.flow_shape.specs.Sorting.{Sorting, AreWaits}
use Rattle.flow_shape.proofs.Sorting.{sort-begins, refilled}
use Rattle.flow_shape.proofs.Orders.{valid_joined, sorted_whole, stuck_cycle}
use Rattle.flow_shape.proofs.Shape.topo.Goals as goal

pub targets-requires : goal.targets-requires
targets-requires c = valid_joined c.args.self.now c.requires

pub waits-requires-clause-joined : goal.waits-requires-clause-joined
waits-requires-clause-joined c = valid_joined c.args.self.now c.requires

pub follow_all-requires-clause-joined : goal.follow_all-requires-clause-joined
follow_all-requires-clause-joined c = valid_joined c.args.self.now c.requires

pub follow_all-requires-clause-start : goal.follow_all-requires-clause-start
follow_all-requires-clause-start c =
    let counts : List ℕ = c.as_mut_slice.result.now in
    let same : c.in_ok-counts.counts.items ≡ counts = sym c.as_mut_slice.ensures.value in
    let waiting : AreWaits c.args.self.now counts = subst (AreWaits c.args.self.now) same c.in_ok-counts.ensures in
    let free : places (λ k. eqb k 0) 0 counts ≡ c.in_ok-order.order.items = ap (places (λ k. eqb k 0) 0) (sym same ∙ sym c.as_slice.ensures.value) ∙ sym c.in_ok-order.ensures in
    subst (λ (o : List ℕ). Sorting c.args.self.now [] [] counts o) free (sort-begins c.args.self.now counts waiting)

pub returns-in-Some : goal.returns-in-Some
returns-in-Some c =
    let done = c.in_ok-follow_all.ensures in
    let counts : List ℕ = c.follow_all.new.counts in
    let some = c.in-Some.ensures.some in
    let same : c.as_slice-3.result.now ≡ counts = c.as_slice-3.ensures.value ∙ refilled c.in_ok-counts.counts.len counts (drop (length counts) c.in_ok-counts.counts.items) (omega (arith, done.counted, c.in_ok-counts.ensures.0, c.in_ok-counts.counts.ok.0)) in
    let waiting : eqb (get_or counts c.in-Some.field-0 0) 0 ≡ false = subst (λ (l : List ℕ). eqb (get_or l c.in-Some.field-0 0) 0 ≡ false) same some.1 in
    let within : c.in-Some.field-0 < length counts = subst (λ (l : List ℕ). c.in-Some.field-0 < length l) same some.0 in
    stuck_cycle c.args.self.now counts c.follow_all.new.order.items (valid_joined c.args.self.now c.requires) done c.in-Some.field-0 within waiting

pub returns : goal.returns
returns c =
    let done = c.in_ok-follow_all.ensures in
    let counts : List ℕ = c.follow_all.new.counts in
    let same : c.as_slice-3.result.now ≡ counts = c.as_slice-3.ensures.value ∙ refilled c.in_ok-counts.counts.len counts (drop (length counts) c.in_ok-counts.counts.items) (omega (arith, done.counted, c.in_ok-counts.ensures.0, c.in_ok-counts.counts.ok.0)) in
    let none : (m : ℕ) → m < length counts → get_or counts m 0 ≡ 0 = subst (λ (l : List ℕ). (m : ℕ) → m < length l → get_or l m 0 ≡ 0) same c.in-None.ensures.none in
    let whole = sorted_whole c.args.self.now counts c.follow_all.new.order.items (valid_joined c.args.self.now c.requires) done none in
    subst (λ (o : List ℕ). Sorts c.args.self.now (Some o)) (sym c.from_vec.ensures) whole
