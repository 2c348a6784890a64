-- The rank's digits, from the lowest up.
-- Assumes nothing.
use Rattle.exhaustive.proofs.Counting.{Put}
use Rattle.exhaustive.proofs.put_plan.Given as goal

abbrev pub invariant-loop-t : goal.invariant-loop-t
invariant-loop-t l = Put l.rates l.tasks l.rank l.fn.plan l.plan l.left l.t
