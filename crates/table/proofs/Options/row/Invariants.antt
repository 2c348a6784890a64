-- The invariant: the row holds the least loads by the rate numbers below the one in hand.
-- Assumes nothing.
use Prim.Native.Nat.{◌+◌, ◌≤◌}
use Rattle.table.proofs.Rows.{RowTo}
use Rattle.table.proofs.Options.row.Given as goal

abbrev pub invariant-loop-r : goal.invariant-loop-r
invariant-loop-r l = RowTo l.self.frame l.task l.self.cost.now l.self.load.now l.r l.words × (l.r ≤ l.self.frame.rates + 1)
