-- Each exit is the entry's.
-- Assumes nothing.
use Rattle.std.specs.Prelude.{Ok, Err}
use Rattle.std.proofs.lemmas.Result.{err_from_is_err_and}
use Rattle.entries.proofs.PlanEntries.{checks_refused, bytes_refused, call_answered}
use Rattle.capi.proofs.plan_values.Goals as goal

pub returns-in_err-measured : goal.returns-in_err-measured
returns-in_err-measured c = let a = c.args in
    let p = err_from_is_err_and c.from_residual.result c.from_residual.ensures.1 in
    rw (p.1, p.2) (checks_refused a.engine a.set.now a.plan.now a.work.now _ _ c.in_err-measured.ensures)

pub returns-in_err-enough : goal.returns-in_err-enough
returns-in_err-enough c = let a = c.args in
    let p = err_from_is_err_and c.from_residual-in_err-enough.result c.from_residual-in_err-enough.ensures.1 in
    rw (p.1, p.2) (bytes_refused a.engine a.set.now a.plan.now a.work.now _ _ c.in_ok-measured.ensures.0 c.in_err-enough.ensures)

pub returns-in_err-p : goal.returns-in_err-p
returns-in_err-p c = let a = c.args in
    let p = err_from_is_err_and c.from_residual-in_err-p.result c.from_residual-in_err-p.ensures.1 in
    rw (p.1, p.2)
    (call_answered a.engine a.set.now a.plan.now a.work.now _ (Err _) c.in_err-p.ensures c.in_ok-measured.ensures.0 c.in_ok-enough.ensures)

pub returns : goal.returns
returns c = let a = c.args in
    call_answered a.engine a.set.now a.plan.now a.work.now _ (Ok c.in_ok-p.p) c.in_ok-p.ensures c.in_ok-measured.ensures.0 c.in_ok-enough.ensures
