-- The table has an entry for each rate number.
-- Assumes nothing.
use native.Mathlib.Omega.{arith}
use Rattle.chips.proofs.Tables.{count_range, rates-length, rate-entry}
use Rattle.chips.proofs.rate.Goals as goal

pub offset_bounds-rates-r : goal.offset_bounds-rates-r
offset_bounds-rates-r c = omega (arith, c.requires, count_range c.args.chip)

pub bounds-rates-r : goal.bounds-rates-r
bounds-rates-r c = rw c.rates.ensures (omega (arith, c.requires, rates-length c.args.chip))

pub returns : goal.returns
returns c = rw c.rates.ensures (rate-entry c.args.chip c.args.r c.requires.0 c.requires.1)
