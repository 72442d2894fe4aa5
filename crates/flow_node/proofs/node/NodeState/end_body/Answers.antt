use Rattle.std.proofs.Common.{◌≡◌, true, ◌+◌, ◌≤◌, if◌then◌else◌, [], refl, ap, arith, map}
use Rattle.flow_machine.specs.State.{casts_of}
use Rattle.flow_machine.specs.Enabled.{may_end}
use Rattle.flow_node.specs.Readied.{Readied, runs_bodies}
use Rattle.flow_node.specs.Parts.{cast_in}
use Rattle.flow_machine.specs.After.{part_after_end}
use Rattle.flow_node.specs.Kept.{kind_of, part_of, coming_of, is_counted, place_of}
use Rattle.flow_node.proofs.StoreLemmas.{counted-more, counted-ended}
use Rattle.flow_node.proofs.NodeLemmas.{kept-step, ended-after, ends-running, running-runs}
use Rattle.flow_node.proofs.node.NodeState.end_body.Goals as goal

pub end-requires : goal.end-requires
end-requires c =
    let p = c.self.inside.part in
    let x = c.requires in
    let may : may_end (kind_of p) (part_of p) c.args.no x.outs ≡ true = rw (← c.self.view_is) at x.may in
    record { running = ends-running p c.args.no x.outs may }

pub invariant_of-self : goal.invariant_of-self
invariant_of-self c =
    let b = c.self.inside.base in
    let p = c.self.inside.part in
    let x = c.requires in
    let may : may_end (kind_of p) (part_of p) c.args.no x.outs ≡ true = rw (← c.self.view_is) at x.may in
    let runs : runs_bodies (part_of p) ≡ true = running-runs (part_of p) c.args.no (ends-running p c.args.no x.outs may) in
    let casts : map cast_in (coming_of p) ≡ (if runs_bodies (part_of p) then casts_of b.node x.number x.outs else []) = rw (← c.self.view_is) at x.casts in
    let mine : map cast_in (coming_of p) ≡ casts_of b.node x.number x.outs = rw runs at casts in
    let made = b.made + c.coming-count.result in
    let fits : made + 0 ≤ 18446744073709551615 = omega (arith, c.self.invariant.numbers, c.coming-count.ensures) in
    let after = part_after_end (place_of b p) (part_of p) c.args.no x.number x.outs in
    let counted : is_counted made after ≡ true = counted-ended made (place_of b p) (part_of p) c.args.no x.number x.outs (counted-more (part_of p) b.made made (omega arith) c.self.invariant.counted) in
    let is : part_of c.end.new.self ≡ after = c.end.ensures.part x.number x.outs mine in
    kept-step b record b { made = made; due = true } p c.end.new.self c.self.invariant c.end.ensures.same refl (rw is counted) fits

pub returns : goal.returns
returns c = λ x.
    let b = c.self.inside.base in
    let p = c.self.inside.part in
    let may : may_end (kind_of p) (part_of p) c.args.no x.outs ≡ true = rw (← c.self.view_is) at x.may in
    let runs : runs_bodies (part_of p) ≡ true = running-runs (part_of p) c.args.no (ends-running p c.args.no x.outs may) in
    let casts : map cast_in (coming_of p) ≡ (if runs_bodies (part_of p) then casts_of b.node x.number x.outs else []) = rw (← c.self.view_is) at x.casts in
    let mine : map cast_in (coming_of p) ≡ casts_of b.node x.number x.outs = rw runs at casts in
    ended-after b p (ap (λ (r : Readied). r.node) c.self.view_is) c.self.invariant c.end.new.self c.args.no x.number c.coming-count.result x.outs mine c.coming-count.ensures c.end.ensures.same.kind (c.end.ensures.part x.number x.outs mine)
