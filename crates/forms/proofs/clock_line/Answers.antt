-- The first letter tells which line it must be.
-- Assumes nothing.
use mathlib.Core.Path.{sym, ◌∙◌}
use Rattle.text.specs.Reading.{read_chip_line, read_rates_line}
use Rattle.forms.proofs.Gives.{first_gives, second_gives}
use Rattle.forms.proofs.clock_line.Goals as goal

pub returns-then-is_letter : goal.returns-then-is_letter
returns-then-is_letter c =
    first_gives 99 read_chip_line read_rates_line (sym c.is_letter.ensures ∙ c.if-is_letter.true) c.chip_line.ensures

pub returns-else-is_letter : goal.returns-else-is_letter
returns-else-is_letter c =
    second_gives 99 read_chip_line read_rates_line (sym c.is_letter.ensures ∙ c.if-is_letter.false) c.rates_line.ensures
