-- The deadlines, task by task. The invariant: those of the tasks before the one in hand are their first releases, and
-- the rest of the state is as at tick 0.
-- Assumes nothing.
use lib.ListN.{take}
use Rattle.ticks.specs.Arrays.{Begun}
use Rattle.ticks.proofs.State.begin.Given as goal

abbrev pub invariant-loop-i : goal.invariant-loop-i
invariant-loop-i l = Begun (take l.i l.tasks) l.self
