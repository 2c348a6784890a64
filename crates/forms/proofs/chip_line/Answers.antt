-- The chip's name behind the line's, and its rates in the list.
-- Assumes nothing.
use mathlib.Core.Path.{refl}
use native.Mathlib.Omega.{arith}
use Rattle.chips.proofs.Tables.{count_range}
use Rattle.text.specs.Text.{bytes, chip}
use Rattle.text.specs.Reading.{skip, read_chip}
use Rattle.scanner.proofs.Places.{skip_departs, skipped}
use Rattle.forms.proofs.Gives.{refuses, gives, handed, map_gives}
use Rattle.forms.proofs.chip_line.Goals as goal

pub returns-in_err-literal : goal.returns-in_err-literal
returns-in_err-literal c = handed _ _ _ _ c.from_residual.ensures.1
    (map_gives chip (skip (bytes "chip ") read_chip)
    (refuses _ _ _ (skip_departs (bytes "chip ") read_chip c.in_err-literal.ensures.reads)))

pub returns-in_err-chip : goal.returns-in_err-chip
returns-in_err-chip c = handed _ _ _ _ c.from_residual-in_err-chip.ensures.1
    (map_gives chip (skip (bytes "chip ") read_chip)
    (refuses _ _ _ (skipped (bytes "chip ") read_chip c.in_ok-literal.ensures.reads c.in_err-chip.ensures)))

pub put_rates-requires : goal.put_rates-requires
put_rates-requires c = omega (arith, (count_range c.in_ok-chip.chip).1, c.requires)

pub returns : goal.returns
returns c =
    map_gives chip (skip (bytes "chip ") read_chip)
    (gives _ _ _ (skipped (bytes "chip ") read_chip c.in_ok-literal.ensures.reads c.in_ok-chip.ensures) refl c.put_rates.ensures)
