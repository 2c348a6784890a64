-- The walk of a plan that was given is kept; its lines.
-- Assumes nothing.
use mathlib.Core.Path.{subst}
use native.Mathlib.Omega.{arith}
use Rattle.std.specs.Prelude.{Ok}
use Rattle.taskset.specs.declared.WalkEnd.{WalkEnd}
use Rattle.walk.specs.Answers.{Walked}
use Rattle.answer.proofs.Calls.{plan_room, plan_kept, not_missed, not_refused}
use Rattle.answer.proofs.answer_plan.Goals as goal

pub put_plan-requires : goal.put_plan-requires
put_plan-requires c = let v = c.in-Ok-Kept in
    omega (arith, plan_room c.requires v.busy v.idle v.preempted)

pub returns : goal.returns
returns c = let a = c.args in
    plan_kept c.requires _ _ _ _ _ _
    (subst (λ (e : WalkEnd). Walked a.set.now a.plan.now (Ok e)) c.in-Ok-Kept.field-0-is c.in-Ok-Kept.ensures) c.put_plan.ensures

pub unreachable-requires : goal.unreachable-requires
unreachable-requires c = let a = c.args in
    not_missed c.requires _ _
    (subst (λ (e : WalkEnd). Walked a.set.now a.plan.now (Ok e)) c.in-Ok-Missed.field-0-is c.in-Ok-Missed.ensures)

pub unreachable-requires-in-Err : goal.unreachable-requires-in-Err
unreachable-requires-in-Err c = not_refused c.requires _ c.in-Err.ensures
