-- The options of one task, rate by rate. The invariant: the arrays hold those of the tasks before, and of this task
-- those of the rates before the one in hand.
-- Assumes nothing.
use Rattle.options.specs.Options.{LaidBoth}
use Rattle.options.proofs.put_task.Given as goal

abbrev pub invariant-loop-r : goal.invariant-loop-r
invariant-loop-r l = LaidBoth l.set.layout l.set.words.now l.set.rates l.t l.r l.loads l.energies
