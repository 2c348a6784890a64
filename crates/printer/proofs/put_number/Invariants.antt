-- The digits of a number, from the back. The loop's invariant, Filled: those behind the first `i` are in place, and the
-- first `i` are those of what is left.
-- Assumes nothing.
use Rattle.printer.proofs.Puts.{Filled}
use Rattle.printer.proofs.put_number.Given as goal

abbrev pub invariant-loop-i : goal.invariant-loop-i
invariant-loop-i l = Filled l.v l.initial.buf l.x l.buf l.i
