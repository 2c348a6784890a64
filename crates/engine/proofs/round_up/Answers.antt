use native.Mathlib.Omega.{arith}
use Rattle.std.proofs.Math.Pow.{pow_mono}
use Rattle.engine.proofs.round_up.Goals as goal

-- An energy is below 2 ^ 47, and no unit is above 2 ^ 63.
pub overflow_add-cost : goal.overflow_add-cost
overflow_add-cost c = let g = c.requires in
    omega (arith, g.small c.loop-k.k, g.power, pow_mono {i = c.args.exponent} {j = 63} g.low)
