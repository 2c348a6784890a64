-- The numbers of a list. The invariant: the numbers so far are in place, and with those that are left, read at the
-- place in hand, they give the whole answer.
-- Assumes nothing.
use Rattle.forms.specs.Forms.{spaced_number}
use Rattle.forms.proofs.Lists.{alone, SoFar}
use Rattle.forms.proofs.numbers.Given as goal

abbrev pub invariant-loop-n : goal.invariant-loop-n
invariant-loop-n l = SoFar spaced_number 32 l.low l.spare alone 1 l.initial.text l.k l.initial.out l.text l.n l.out
