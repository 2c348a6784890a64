use Rattle.numbers.proofs.Bits.{bit_test}
use Rattle.arithmetic.proofs.is_even.Goals as goal

pub returns : goal.returns
returns c = bit_test c.args.u c.args.n c.requires
