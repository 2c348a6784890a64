-- The words of the head, and the rates. The invariant: no word before the place in hand is at fault.
-- Assumes nothing.
use Rattle.checks.specs.Steps.{GoodBefore}
use Rattle.checks.proofs.check_front.Given as goal

abbrev pub invariant-loop-q : goal.invariant-loop-q
invariant-loop-q l = GoodBefore l.layout l.s l.q

abbrev pub invariant-loop-q-2 : goal.invariant-loop-q-2
invariant-loop-q-2 l = GoodBefore l.fn.layout l.s l.q
