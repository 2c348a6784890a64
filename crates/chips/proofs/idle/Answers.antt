-- The table in code is the definition's, and every chip's entry is inside it.
-- Assumes nothing.
use Prim.Native.Nat.{ℕ}
use mathlib.Core.Path.{ap}
use native.Mathlib.Omega.{arith}
use lib.ListN.{get_or}
use Rattle.chips.specs.Chips.{idle_figures}
use Rattle.chips.proofs.Rising.{idle_inside}
use Rattle.chips.proofs.idle.Goals as goal

pub offset_bounds-idle_entry : goal.offset_bounds-idle_entry
unfolding idle_figures
offset_bounds-idle_entry c = omega (arith, idle_inside c.args.chip, c.idle_entry.ensures)

pub bounds-idle_entry : goal.bounds-idle_entry
unfolding idle_figures
bounds-idle_entry c = omega (arith, idle_inside c.args.chip, c.idle_entry.ensures)

pub returns : goal.returns
unfolding idle_figures
returns c = ap (λ (k : ℕ). get_or idle_figures k 0) c.idle_entry.ensures
