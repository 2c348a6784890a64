-- The tasks. The invariant: those so far stand in the list, and the state is the one behind their draws.
-- Assumes nothing.
use Rattle.generator.proofs.Parts.{Drawn}
use Rattle.generator.proofs.put_tasks.Given as goal

abbrev pub invariant-loop-t : goal.invariant-loop-t
invariant-loop-t l = Drawn l.seed l.n l.initial.list l.t l.state l.list
