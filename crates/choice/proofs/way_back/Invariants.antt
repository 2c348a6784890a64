-- The way back, a task a turn: the invariant is what holds before the next task is taken.
-- Assumes nothing.
use Rattle.choice.proofs.Ways.{OnWay}
use Rattle.choice.proofs.way_back.Given as goal

abbrev pub invariant-loop-task : goal.invariant-loop-task
invariant-loop-task l = OnWay l.options.frame l.column l.options.cost.now l.options.load.now l.fn.plan l.plan l.left l.task
