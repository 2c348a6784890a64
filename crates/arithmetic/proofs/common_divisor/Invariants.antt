-- The loop of halvings and subtractions. The invariant, Reached: the two numbers in hand are multiples of the largest
-- power of two that divides both, have the divisor that is looked for, and the steps made and those to come are the
-- definition's.
-- Assumes nothing.
use Prim.Native.Nat.{◌+◌}
use Rattle.numbers.proofs.Reached.{Reached}
use Rattle.arithmetic.proofs.common_divisor.Given as goal

abbrev pub invariant-loop-p : goal.invariant-loop-p
invariant-loop-p l = Reached l.x l.y l.p.a l.p.b l.p.steps

abbrev pub decreases-loop-p : goal.decreases-loop-p
decreases-loop-p l = l.p.a + l.p.b
