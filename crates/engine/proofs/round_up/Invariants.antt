-- The invariant: the costs before the place in hand are rounded up.
-- Assumes nothing.
use Rattle.engine.specs.Arrays.{Written, cost_of}
use Rattle.engine.proofs.round_up.Given as goal

abbrev pub invariant-loop-k : goal.invariant-loop-k
invariant-loop-k l = Written (cost_of l.energies l.exponent) 0 l.k l.initial.cost l.cost
