-- The words of the tasks. The invariant: no word before the one in hand is at fault.
-- Assumes nothing.
use Prim.Native.Nat.{◌+◌}
use Rattle.layout.specs.Words.{period_place}
use Rattle.checks.specs.Steps.{GoodBefore}
use Rattle.checks.proofs.check_tasks.Given as goal

abbrev pub invariant-loop-t : goal.invariant-loop-t
invariant-loop-t l = GoodBefore l.layout l.s (period_place l.layout l.counts.rates l.t)

abbrev pub invariant-loop-k : goal.invariant-loop-k
invariant-loop-k l = GoodBefore l.layout l.s (period_place l.layout l.counts.rates l.t + l.k)
