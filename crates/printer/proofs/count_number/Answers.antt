-- A number has a digit more than its highest power of ten.
-- Assumes nothing.
use mathlib.Core.Path.{sym, ◌∙◌}
use native.Mathlib.Nat.{pow-succ'}
use native.Mathlib.Omega.{arith}
use Rattle.printer.proofs.Puts.{length_small, length-between}
use Rattle.printer.proofs.count_number.Goals as goal

pub returns-in-Some : goal.returns-in-Some
returns-in-Some c =
    let k = c.in-Some.power in
    sym (length-between k c.args.v c.in-Some.ensures.power_le (rw (pow-succ' 10 k) c.in-Some.ensures.next_power_gt) (omega arith) ∙ omega arith)

pub returns-in-None : goal.returns-in-None
returns-in-None c = sym (length_small _ (omega (arith, c.in-None.ensures.none)))
