-- The invariant: the lowest rate number that makes the entry is not below the one in hand.
-- Assumes nothing.
use Prim.Native.Nat.{◌≤◌}
use Rattle.table.specs.Rows.{rate_of}
use Rattle.table.proofs.Options.rate_at.Given as goal

abbrev pub invariant-loop-number : goal.invariant-loop-number
invariant-loop-number l = l.number ≤ rate_of l.self.frame l.self.cost.now l.self.load.now l.task l.column
