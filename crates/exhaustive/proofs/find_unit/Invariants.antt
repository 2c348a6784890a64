-- The units tried, from the first down: the invariant is that a unit is in hand.
-- Assumes nothing.
use Rattle.engine.specs.Arrays.{arrays}
use Rattle.engine.proofs.Units.{Tried}
use Rattle.exhaustive.proofs.find_unit.Given as goal

abbrev pub invariant-loop-q : goal.invariant-loop-q
invariant-loop-q l = Tried (arrays l.q l.loads l.energies) l.q.slack l.initial.unit.exponent l.unit

abbrev pub decreases-loop-q : goal.decreases-loop-q
decreases-loop-q l = l.unit.exponent
