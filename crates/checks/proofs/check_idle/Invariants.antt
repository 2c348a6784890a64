-- The first task with an energy that is too low. The invariant: none before the task in hand.
-- Assumes nothing.
use Rattle.checks.proofs.Judging.{NoneBelow}
use Rattle.checks.proofs.check_idle.Given as goal

abbrev pub invariant-loop-t : goal.invariant-loop-t
invariant-loop-t l = NoneBelow l.set.layout l.set.words.now l.set.rates l.t
