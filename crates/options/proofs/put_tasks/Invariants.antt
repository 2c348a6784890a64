-- The options of all tasks, task by task. The invariant: the arrays hold those of the tasks before the one in hand.
-- Assumes nothing.
use Rattle.options.specs.Options.{LaidBoth}
use Rattle.options.proofs.put_tasks.Given as goal

abbrev pub invariant-loop-t : goal.invariant-loop-t
invariant-loop-t l = LaidBoth l.set.layout l.set.words.now l.set.rates l.t 1 l.loads l.energies
