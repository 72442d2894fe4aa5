use Rattle.std.proofs.Common.{◌≡◌, ◌+◌, ◌<◌, ◌&&◌, true, ltb, length, refl, arith}
use Rattle.std.proofs.lemmas.Bool.{ltb-true}
use Rattle.flow_item.proofs.Tests.{and_right}
use Rattle.flow_node.specs.Kept.{part_of, spare_of, coming_of, place_of}
use Rattle.flow_node.proofs.StoreLemmas.{counted-kept}
use Rattle.flow_node.proofs.NodeLemmas.{kept-step, kept-more}
use Rattle.flow_node.proofs.node.NodeState.come.Goals.{in-Lost, in_default}
use Rattle.flow_node.proofs.node.NodeState.come.Goals as goal

pub invariant_of-self : goal.invariant_of-self
invariant_of-self c =
    let b = c.self.inside.base in
    let p = c.self.inside.part in
    let ready : (ltb 0 (spare_of p) && ltb (b.made + length (coming_of p)) 18446744073709551615) ≡ true = rw (← c.self.view_is) at c.requires.ready in
    let more : b.made + length (coming_of p) < 18446744073709551615 = ltb-true _ _ (and_right (ltb 0 (spare_of p)) _ ready) in
    elim c.match-land.branch [
      | in-Lost w ↦ rw (w.self-inside-is) (kept-more b p c.self.invariant more)
      | in_default w ↦ rw (w.self-inside-is) (kept-step b record b { made = b.made + 1; due = true } p w.arrive.new.self c.self.invariant w.arrive.ensures refl
          (counted-kept (place_of b p) b.push.items (part_of p) c.args.port b.made c.args.tag b.node c.in-Some.val c.self.invariant.counted) (omega (arith, more)))
    ]
