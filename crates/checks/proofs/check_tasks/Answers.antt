use Prim.Native.Nat.{◌+◌, ◌<◌}
use mathlib.Core.Path.{◌≡◌, sym, ◌∙◌}
use native.Mathlib.Omega.{arith}
use Rattle.std.proofs.lemmas.Result.{err_from_is_err_and}
use Rattle.layout.specs.Words.{period_place, task_size, kind_at}
use Rattle.checks.proofs.Fronts.{good_more, bad_word, kind_here, wanted_here}
use Rattle.checks.proofs.check_tasks.Goals as goal
use Rattle.checks.proofs.check_tasks.Goals.{After-task_kind}

-- The word in hand is one of the task's.
part : (c : After-task_kind) → c.loop-k.k < task_size c.args.layout c.args.counts.rates
part c = omega (arith, c.task_size-size.ensures, c.loop-k-test.true)

kind_is : (c : After-task_kind)
    → kind_at c.args.layout c.args.s.now (period_place c.args.layout c.args.counts.rates c.loop-t.t + c.loop-k.k) ≡ c.task_kind.result
kind_is c = kind_here c.requires c.loop-t-test.true (part c) ∙ sym c.task_kind.ensures

pub returns-in_err-word_at : goal.returns-in_err-word_at
returns-in_err-word_at c = let h = (goal.at.returns-in_err-word_at c).After-task_kind in
    let p = err_from_is_err_and c.from_residual.result c.from_residual.ensures.1 in
    rw (p.1, p.2)
    (bad_word c.args.layout c.args.s.now c.loop-k.invariant (kind_is h) (wanted_here c.requires c.loop-t-test.true (part h))
    c.in_err-word_at.field-0.0 (rw c.period_place-at.ensures at c.in_err-word_at.ensures))

pub loop-k-preserved : goal.loop-k-preserved
loop-k-preserved c = let h = (goal.at.loop-k-preserved c).After-task_kind in
    good_more c.args.layout c.args.s.now c.loop-k.invariant (kind_is h)
    (rw c.period_place-at.ensures at c.in_ok-word_at.ensures) (omega arith)
