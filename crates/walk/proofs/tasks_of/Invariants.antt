-- The timings, task by task. The invariant: the array holds those of the tasks before the one in hand.
-- Assumes nothing.
use Rattle.walk.specs.Steps.{Holds}
use Rattle.walk.proofs.tasks_of.Given as goal

abbrev pub invariant-loop-t : goal.invariant-loop-t
invariant-loop-t l = Holds l.fn.set l.plan l.t l.tasks
