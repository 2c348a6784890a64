-- The table has an entry for each rate number.
-- Assumes nothing.
use native.Mathlib.Omega.{arith}
use Rattle.chips.proofs.Rising.{powers_as_many}
use Rattle.chips.proofs.Tables.{count_range}
use Rattle.chips.proofs.power.Goals as goal

pub offset_bounds-powers-r : goal.offset_bounds-powers-r
offset_bounds-powers-r c = omega (arith, c.requires, count_range c.args.chip)

pub bounds-powers-r : goal.bounds-powers-r
bounds-powers-r c = rw c.powers.ensures (omega (arith, c.requires, powers_as_many c.args.chip))
