use Rattle.std.proofs.Common.{◌≡◌, ℕ, ◌+◌, ◌-◌, ◌/◌, ◌≤◌, ◌<◌, Some, length, refl, arith, sym, subst}
use Rattle.std.specs.Prelude.{slice_get}
use Rattle.std.proofs.lemmas.Option.{slice_get_read}
use Rattle.flow_item.specs.Pairs.{Pair}
use Rattle.flow_mean.proofs.Values.{above-order}
use Rattle.flow_mean.proofs.passes.place_of.Goals as goal

pub loop-low-preserved-then-map-middle : goal.loop-low-preserved-then-map-middle
loop-low-preserved-then-map-middle c =
    let m : ℕ = c.loop-low.low + (c.loop-low.high - c.loop-low.low) / 2 in
    let less : c.loop-low.low < c.loop-low.high = c.loop-low-test.true in
    let most : c.loop-low.high ≤ length c.args.map.now = c.loop-low.invariant.within in
    let inside : m < length c.args.map.now = omega arith in
    let q : Pair = c.index-map-middle.result in
    let there : slice_get c.args.map.now m ≡ Some q = slice_get_read c.args.map.now (length c.args.map.now) m q refl inside c.index-map-middle.is in
    let small : q.0 < c.args.tag = subst (λ (p : Pair). p.0 < c.args.tag) (sym c.index-map-middle.is) c.if-map-middle.true in
    record {
      order = omega arith;
      within = most;
      below = λ i p low at. let up : p.0 ≤ q.0 = above-order 0 i m c.args.map.now p q c.requires.rises (omega (arith, low)) at there in omega (arith, up, small);
      above = c.loop-low.invariant.above;
    }

pub loop-low-preserved : goal.loop-low-preserved
loop-low-preserved c =
    let m : ℕ = c.loop-low.low + (c.loop-low.high - c.loop-low.low) / 2 in
    let less : c.loop-low.low < c.loop-low.high = c.loop-low-test.true in
    let most : c.loop-low.high ≤ length c.args.map.now = c.loop-low.invariant.within in
    let inside : m < length c.args.map.now = omega arith in
    let q : Pair = c.index-map-middle.result in
    let there : slice_get c.args.map.now m ≡ Some q = slice_get_read c.args.map.now (length c.args.map.now) m q refl inside c.index-map-middle.is in
    let large : c.args.tag ≤ q.0 = subst (λ (p : Pair). c.args.tag ≤ p.0) (sym c.index-map-middle.is) c.if-map-middle.false in
    record {
      order = omega arith;
      within = omega arith;
      below = c.loop-low.invariant.below;
      above = λ i p high at. let up : q.0 ≤ p.0 = above-order 0 m i c.args.map.now q p c.requires.rises high there at in omega (arith, up, large);
    }
