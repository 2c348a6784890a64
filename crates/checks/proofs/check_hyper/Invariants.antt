-- The running multiple, period by period.
-- Assumes nothing.
use Rattle.checks.proofs.Following.{Turn}
use Rattle.checks.proofs.check_hyper.Given as goal

abbrev pub invariant-loop-t : goal.invariant-loop-t
invariant-loop-t l = Turn l.set.layout l.set.words.now l.hyper l.t
