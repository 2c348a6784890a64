-- The invariant: the rows up to the one before the task in hand are the table's.
-- Assumes nothing.
use Rattle.table.specs.Rows.{Tabled}
use Rattle.table.proofs.Options.table.Given as goal

abbrev pub invariant-loop-task : goal.invariant-loop-task
invariant-loop-task l = Tabled l.self.frame l.task l.self.cost.now l.self.load.now l.fn.d l.d
