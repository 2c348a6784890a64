use native.Mathlib.Omega.{arith}
use Rattle.printer.proofs.Puts.{fill_none, fill_one, first_small, fill_all}
use Rattle.printer.proofs.put_number.Goals as goal

pub loop-i-init : goal.loop-i-init
loop-i-init c = let e = c.count_number-n.ensures in
    fill_none c.args.v c.args.buf.now _ (omega arith) e (omega (arith, e, c.requires))

pub loop-i-preserved : goal.loop-i-preserved
loop-i-preserved c = fill_one c.loop-i.invariant (omega arith)

pub overflow_cast-buf-2 : goal.overflow_cast-buf-2
overflow_cast-buf-2 c = omega (arith, first_small c.loop-i.invariant (omega arith))

pub overflow_add-buf-2 : goal.overflow_add-buf-2
overflow_add-buf-2 c = omega (arith, first_small c.loop-i.invariant (omega arith))

pub returns : goal.returns
returns c = fill_all c.loop-i.invariant (omega arith) c.count_number-n.ensures
