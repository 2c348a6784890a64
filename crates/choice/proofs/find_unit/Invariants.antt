-- The units tried, from the first down: the invariant is what holds before a unit is tried.
-- Assumes nothing.
use Rattle.choice.proofs.Trying.{Trying}
use Rattle.choice.proofs.find_unit.Given as goal

abbrev pub invariant-loop-q : goal.invariant-loop-q
invariant-loop-q l = Trying l.q l.loads l.energies l.initial.work l.initial.unit.exponent l.work l.unit l.columns

abbrev pub decreases-loop-q : goal.decreases-loop-q
decreases-loop-q l = l.unit.exponent
