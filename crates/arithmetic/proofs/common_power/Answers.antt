use native.Mathlib.Omega.{arith}
use Rattle.numbers.proofs.Bits.{some_bit, lowest_of_64}
use Rattle.arithmetic.proofs.common_power.Goals as goal

-- A bit is set, so that what the bits lack to 64 ones has room for one more.
pub overflow_add-result : goal.overflow_add-result
overflow_add-result c = omega (arith, some_bit c.args.x c.args.y c.requires (omega arith) (omega arith))

pub returns : goal.returns
returns c = lowest_of_64 c.args.x c.args.y c.requires (omega arith) (omega arith)
