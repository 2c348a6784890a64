-- The carry from task to task: the invariant is what holds before a task is looked at.
-- Assumes nothing.
use Rattle.exhaustive.proofs.Hands.{Carried}
use Rattle.exhaustive.proofs.Options.advance.Given as goal

abbrev pub invariant-loop-t : goal.invariant-loop-t
invariant-loop-t l = Carried l.self.q l.self.loads.now l.self.cost.now l.fn.hand l.hand l.sums l.t
