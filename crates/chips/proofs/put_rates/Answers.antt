-- The whole table, as a part of the list.
-- Assumes nothing.
use native.Mathlib.Omega.{arith}
use mathlib.Core.Path.{ap, ◌∙◌}
use lib.ListN.{length}
use Rattle.lists.proofs.Rows.{part_written}
use Rattle.chips.proofs.Tables.{rates-length}
use Rattle.chips.proofs.put_rates.Goals as goal

pub slice_bounds-copy_from_slice-end : goal.slice_bounds-copy_from_slice-end
slice_bounds-copy_from_slice-end c = let l = ap length c.rates-table.ensures ∙ rates-length c.args.chip in omega arith

pub returns : goal.returns
returns c = rw (c.copy_from_slice.ensures.after, c.rates-table.ensures) (part_written _ _ _ _ (omega arith))
