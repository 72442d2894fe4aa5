use Rattle.std.proofs.Common.{◌≡◌, Some, None, sym, ap, ◌∙◌, subst, length, ◌≤◌, ◌<◌, ◌+◌, ◌^◌, arith}
use Rattle.std.specs.Prelude.{slice_get}
use Rattle.std.specs.Option.{option_copied}
use Rattle.flow_shape.specs.declared.Step.TheVariants as T
use Rattle.flow_nodes.specs.DueSets.{least_of}
use Rattle.flow_work.specs.Runs.{Run, waiting}
use Rattle.flow_work.specs.Tasks.{IsIdle, IsNodesTurn, IsSend, IsLeave, IsOver}
use Rattle.flow_work.proofs.TaskLemmas.{none-past, turn-at-end, turn-at-wait, over-at-end, send-at, leave-at}
use Rattle.flow_work.proofs.run.PlainRun.idle_task.Goals as goal

pub returns-in-Some-first_waiting : goal.returns-in-Some-first_waiting
returns-in-Some-first_waiting c =
    let r : Run = record { shape = c.self.inside.shape.now; callers = c.self.inside.callers.now; items = c.self.inside.items; events = c.self.inside.events; journal = c.self.inside.journal.items } in
    let kept = c.self.invariant in
    let idle = subst IsIdle (sym c.self.view_is) c.requires in
    let none : slice_get c.self.inside.callers.now c.self.inside.caller ≡ None = sym c.get.ensures.value ∙ ap option_copied c.in-None.is in
    let past = none-past c.self.inside.callers.now c.self.inside.caller none in
    (sym c.first_waiting.ensures ∙ c.in-Some-first_waiting.is, subst IsNodesTurn c.self.view_is (turn-at-end r c.self.inside.caller c.self.inside.step idle kept.cursor past), c.requires)

pub returns-in-None-first_waiting : goal.returns-in-None-first_waiting
returns-in-None-first_waiting c =
    let r : Run = record { shape = c.self.inside.shape.now; callers = c.self.inside.callers.now; items = c.self.inside.items; events = c.self.inside.events; journal = c.self.inside.journal.items } in
    let kept = c.self.invariant in
    let idle = subst IsIdle (sym c.self.view_is) c.requires in
    let none : slice_get c.self.inside.callers.now c.self.inside.caller ≡ None = sym c.get.ensures.value ∙ ap option_copied c.in-None.is in
    let past = none-past c.self.inside.callers.now c.self.inside.caller none in
    let quiet = subst (λ (r : Run). least_of 0 (waiting r) ≡ None) (sym c.self.view_is) (sym c.first_waiting.ensures ∙ c.in-None-first_waiting.is) in
    subst IsOver c.self.view_is (over-at-end r c.self.inside.caller c.self.inside.step idle kept.cursor past quiet)

pub returns-in-Some-waits_for : goal.returns-in-Some-waits_for
returns-in-Some-waits_for c =
    let r : Run = record { shape = c.self.inside.shape.now; callers = c.self.inside.callers.now; items = c.self.inside.items; events = c.self.inside.events; journal = c.self.inside.journal.items } in
    let kept = c.self.invariant in
    let idle = subst IsIdle (sym c.self.view_is) c.requires in
    let at : slice_get c.self.inside.callers.now c.self.inside.caller ≡ Some c.in-Some.steps.now = sym c.get.ensures.value ∙ ap option_copied c.in-Some.is in
    let both = c.in-Some-waits_for.ensures in
    let least = subst (λ (r : Run). least_of 0 (waiting r) ≡ Some c.in-Some-waits_for.at) (sym c.self.view_is) both.1 in
    (both.1, subst IsNodesTurn c.self.view_is (turn-at-wait r c.self.inside.caller c.self.inside.step c.in-Some-waits_for.at c.in-Some.steps.now kept.runnable kept.journal idle kept.cursor at both.0 least), c.requires)

pub returns-then-step-len : goal.returns-then-step-len
returns-then-step-len c =
    let r : Run = record { shape = c.self.inside.shape.now; callers = c.self.inside.callers.now; items = c.self.inside.items; events = c.self.inside.events; journal = c.self.inside.journal.items } in
    let kept = c.self.invariant in
    let idle = subst IsIdle (sym c.self.view_is) c.requires in
    let at : slice_get c.self.inside.callers.now c.self.inside.caller ≡ Some c.in-Some.steps.now = sym c.get.ensures.value ∙ ap option_copied c.in-Some.is in
    let quiet = subst (λ (r : Run). slice_get c.in-Some.steps.now c.self.inside.step ≡ Some T.Wait → least_of 0 (waiting r) ≡ None) (sym c.self.view_is) c.in-None-waits_for.ensures in
    let short : c.skip_waits-step.result < length c.in-Some.steps.now = subst (λ n. c.skip_waits-step.result < n) c.len.ensures c.if-step-len.true in
    let fits : c.skip_waits-step.result + 1 < 2 ^ 64 = let below = c.if-step-len.true in omega arith in
    subst (λ (r : Run). IsSend r c.self.inside.caller c.skip_waits-step.result) c.self.view_is
    (send-at r c.self.inside.caller c.self.inside.step c.skip_waits-step.result c.in-Some.steps.now kept.runnable kept.journal idle kept.cursor at quiet c.skip_waits-step.ensures short fits)

pub returns-else-step-len : goal.returns-else-step-len
returns-else-step-len c =
    let r : Run = record { shape = c.self.inside.shape.now; callers = c.self.inside.callers.now; items = c.self.inside.items; events = c.self.inside.events; journal = c.self.inside.journal.items } in
    let kept = c.self.invariant in
    let idle = subst IsIdle (sym c.self.view_is) c.requires in
    let at : slice_get c.self.inside.callers.now c.self.inside.caller ≡ Some c.in-Some.steps.now = sym c.get.ensures.value ∙ ap option_copied c.in-Some.is in
    let quiet = subst (λ (r : Run). slice_get c.in-Some.steps.now c.self.inside.step ≡ Some T.Wait → least_of 0 (waiting r) ≡ None) (sym c.self.view_is) c.in-None-waits_for.ensures in
    let past : length c.in-Some.steps.now ≤ c.skip_waits-step.result = subst (λ n. n ≤ c.skip_waits-step.result) c.len.ensures c.if-step-len.false in
    subst (λ (r : Run). IsLeave r c.self.inside.caller) c.self.view_is
    (leave-at r c.self.inside.caller c.self.inside.step c.skip_waits-step.result c.in-Some.steps.now kept.runnable kept.journal idle kept.cursor at quiet c.skip_waits-step.ensures past)
