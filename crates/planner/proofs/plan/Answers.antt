-- The call: the checks before 7, then check 7 and the choice.
-- Assumes nothing.
use Rattle.std.proofs.lemmas.Result.{err_from_is_err_and}
use Rattle.planner.proofs.Calls.{ready_refused}
use Rattle.planner.proofs.plan.Goals as goal

pub returns-in_err-measured : goal.returns-in_err-measured
returns-in_err-measured c = let a = c.args in
    let p = err_from_is_err_and c.from_residual.result c.from_residual.ensures.1 in
    rw (p.1, p.2)
    (ready_refused a.engine a.set.now a.plan.now a.work.now c.in_err-measured.field-0.0 c.in_err-measured.ensures)
