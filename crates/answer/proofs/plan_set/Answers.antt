-- The checks before 7, then the planner.
-- Assumes nothing.
use mathlib.Core.Path.{refl}
use native.Mathlib.Omega.{arith}
use lib.ListN.{take}
use Rattle.std.proofs.lemmas.Result.{err_from_is_err_and}
use Rattle.answer.specs.Steps.{PlannedSet}
use Rattle.answer.proofs.Outputs.{tasks_few}
use Rattle.answer.proofs.Calls.{ready_refused, more_room, call_refused, call_planned}
use Rattle.answer.proofs.plan_set.Goals as goal

pub returns-in_err-measured : goal.returns-in_err-measured
returns-in_err-measured c =
    let p = err_from_is_err_and c.from_residual.result c.from_residual.ensures.1 in
    rw (p.1, p.2) (ready_refused c.args.set.now _ c.in_err-measured.ensures)

pub plan_checked-requires : goal.plan_checked-requires
plan_checked-requires c =
    more_room c.args.set.now _ _ _ _ _ _ _ (omega arith) (omega arith) c.in_ok-measured.ensures

pub returns-in_err-planned : goal.returns-in_err-planned
returns-in_err-planned c =
    let p = err_from_is_err_and c.from_residual-in_err-planned.result c.from_residual-in_err-planned.ensures.1 in
    rw (p.1, p.2) (call_refused c.args.set.now _ _ _ _ c.told-plan refl _ c.in_err-planned.ensures)

pub returns : goal.returns
returns c = let a = c.args in
    let p = c.in_ok-planned.planned in
    let plan : PlannedSet a.set.now (take c.in_ok-measured.measured.tasks c.plan_checked.new.plan) p.unit p.load p.hyper p.energy
    = call_planned a.set.now _ _ _ _ c.told-plan refl _ _ _ _ _ c.in_ok-measured.ensures.2 c.in_ok-planned.ensures in
    (omega (arith, c.in_ok-measured.ensures.2, tasks_few a.set.now plan.accepts, c.plan_checked.auto.plan, c.told-plan), plan)
