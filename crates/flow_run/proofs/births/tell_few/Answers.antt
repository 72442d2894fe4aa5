use Rattle.std.proofs.Common.{◌-◌, ◌∙◌, sym, ap, arith}
use Rattle.std.specs.Option.{option_copied}
use Rattle.flow_run.proofs.Born.{none-before, few-born}
use Rattle.flow_run.proofs.Following.{never-missing}
use Rattle.flow_run.proofs.births.tell_few.Goals as goal

pub returns-then-births-gt0 : goal.returns-then-births-gt0
returns-then-births-gt0 c =
    let value = c.births.ensures.value in
    let bound = c.births.ensures.bound in
    let some = c.if-births-gt0.true in
    let above = c.back-test.true in
    few-born c.args.items c.args.events c.args.journal.now (c.back.at - 1) c.back.at c.in-Some.event.now c.requires.within c.requires.small (omega (arith, above)) (sym c.in-Some.ensures.value) c.back.invariant.none (omega (arith, value, bound)) (omega (arith, value, some))

pub back-preserved : goal.back-preserved
back-preserved c =
    let value = c.births.ensures.value in
    let none = c.if-births-gt0.false in
    let above = c.back-test.true in
    let within = c.back.invariant.within in
    record {
      within = omega (arith, within);
      none = none-before c.args.journal.now (c.back.at - 1) c.back.at c.in-Some.event.now (omega (arith, above)) (sym c.in-Some.ensures.value) (omega (arith, value, none)) c.back.invariant.none;
    }

pub unreachable-requires : goal.unreachable-requires
unreachable-requires c =
    let above = c.back-test.true in
    let within = c.back.invariant.within in
    never-missing c.args.journal.now (c.back.at - 1) (omega (arith, above, within)) (sym c.get.ensures.value ∙ ap option_copied c.in-None.is)
