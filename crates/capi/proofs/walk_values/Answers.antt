-- Each exit is the entry's.
-- Assumes nothing.
use Rattle.std.proofs.lemmas.Result.{err_from_is_err_and}
use Rattle.entries.proofs.Entries.{checks_refused, bytes_refused, kept_answered, missed_answered}
use Rattle.capi.proofs.walk_values.Goals as goal

pub returns-in_err-measured : goal.returns-in_err-measured
returns-in_err-measured c = let a = c.args in
    let p = err_from_is_err_and c.from_residual.result c.from_residual.ensures.1 in
    rw (p.1, p.2) (checks_refused a.set.now a.plan.now _ _ c.in_err-measured.ensures)

pub returns-in_err-enough : goal.returns-in_err-enough
returns-in_err-enough c = let a = c.args in
    let p = err_from_is_err_and c.from_residual-in_err-enough.result c.from_residual-in_err-enough.ensures.1 in
    rw (p.1, p.2) (bytes_refused a.set.now a.plan.now _ _ c.in_ok-measured.ensures.0 c.in_err-enough.ensures)

pub returns-in-Kept : goal.returns-in-Kept
returns-in-Kept c = let a = c.args in
    kept_answered a.set.now a.plan.now _ _ _ _ c.in-Kept.ensures c.in_ok-enough.ensures

pub returns-in-Missed : goal.returns-in-Missed
returns-in-Missed c = let a = c.args in
    missed_answered a.set.now a.plan.now _ _ _ c.in-Missed.ensures c.in_ok-enough.ensures
