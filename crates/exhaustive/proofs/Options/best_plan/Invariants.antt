-- All plans, as many a turn as there are rates.
-- Assumes nothing.
use Rattle.exhaustive.proofs.Hands.{Going}
use Rattle.exhaustive.proofs.Options.best_plan.Given as goal

abbrev pub invariant-loop-rank : goal.invariant-loop-rank
invariant-loop-rank l = Going l.self.q l.self.loads.now l.self.cost.now l.hand l.s l.rank l.best
