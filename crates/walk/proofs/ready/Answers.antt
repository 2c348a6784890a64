-- The checks in their order.
-- Assumes nothing.
use Rattle.walk.proofs.Calls.{plan_refused, plan_sound}
use Rattle.walk.proofs.ready.Goals as goal

pub returns-in-Err : goal.returns-in-Err
returns-in-Err c =
    plan_refused c.args.set.now c.args.plan.now _ _ _ c.in_ok-measured.ensures c.in-Err.k c.in-Err.ensures

pub returns-in-Ok : goal.returns-in-Ok
returns-in-Ok c =
    plan_sound c.args.set.now c.args.plan.now _ _ _ c.in_ok-measured.ensures c.in-Ok.ensures
