-- Checks 2, 3, 10 and 4, then the engine's own, then 6.
-- Assumes nothing.
use Rattle.std.proofs.lemmas.Result.{err_from_is_err_and}
use Rattle.taskset.specs.Planning.{layout_of}
use Rattle.taskset.specs.Refusals.{engine_check}
use Rattle.options.proofs.Enough.{SetPassed, counts_of, set_refused, own_refused, plan_short, is_ready}
use Rattle.planner.proofs.ready.Goals as goal
use Rattle.planner.proofs.ready.Goals.{In_ok-measured}

-- What the set's checks answered, by the engine's layout.
passed : (c : In_ok-measured)
    → SetPassed (layout_of c.args.engine) c.args.set.now c.in_ok-measured.measured
passed c = record { after = rw c.layout_of-layout.ensures at c.in_ok-measured.ensures }

pub returns-in_err-measured : goal.returns-in_err-measured
returns-in_err-measured c = let a = c.args in
    let p = err_from_is_err_and c.from_residual.result c.from_residual.ensures.1 in
    rw (p.1, p.2)
    (set_refused (layout_of a.engine) a.set.now (engine_check a.engine a.set.now a.work_len) a.plan_len
    c.in_err-measured.field-0.0 (rw c.layout_of-layout.ensures at c.in_err-measured.ensures))

pub invariant_of-set : goal.invariant_of-set
invariant_of-set c = record { counts = rw c.layout_of-layout.ensures (counts_of (passed (goal.at.invariant_of-set c).In_ok-measured)) }

pub own_check-requires : goal.own_check-requires
own_check-requires c = c.layout_of-layout.ensures

pub returns-in_err-own_check : goal.returns-in_err-own_check
returns-in_err-own_check c = let a = c.args in
    let p = err_from_is_err_and c.from_residual-in_err-own_check.result c.from_residual-in_err-own_check.ensures.1 in
    rw (p.1, p.2)
    (own_refused (layout_of a.engine) a.set.now (engine_check a.engine a.set.now a.work_len) a.plan_len
    (passed (goal.at.returns-in_err-own_check c).In_ok-measured) c.in_err-own_check.field-0.0 c.in_err-own_check.ensures)

pub returns-then-plan_len-measured : goal.returns-then-plan_len-measured
returns-then-plan_len-measured c = let a = c.args in
    plan_short (layout_of a.engine) a.set.now (engine_check a.engine a.set.now a.work_len) a.plan_len
    (passed (goal.at.returns-then-plan_len-measured c).In_ok-measured) c.in_ok-own_check.ensures.0 c.if-plan_len-measured.true

pub returns : goal.returns
returns c = let a = c.args in
    is_ready (layout_of a.engine) a.set.now (engine_check a.engine a.set.now a.work_len) a.plan_len
    (passed (goal.at.returns c).In_ok-measured) c.in_ok-own_check.ensures.0 c.if-plan_len-measured.false
