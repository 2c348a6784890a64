-- The first letter tells which name it must be.
-- Assumes nothing.
use mathlib.Core.Path.{sym, ◌∙◌}
use Rattle.std.specs.Prelude.{Ok}
use Rattle.chips.specs.declared.Chip.TheVariants.{Xscale, Ppc405lp}
use Rattle.text.specs.Text.{chip_name}
use Rattle.text.specs.Reading.{literal, read_name}
use Rattle.scanner.proofs.Places.{shown, reads_first, reads_second, handed}
use Rattle.forms.proofs.chip_name.Goals as goal

pub returns-in_err-literal : goal.returns-in_err-literal
returns-in_err-literal c = handed _ c.from_residual.ensures.1
    (reads_first 120 (read_name Xscale) (read_name Ppc405lp) (sym c.is_letter.ensures ∙ c.if-is_letter.true)
    (shown (λ _. Xscale) (literal (chip_name Xscale)) _ c.in_err-literal.ensures.reads))

pub returns-then-is_letter : goal.returns-then-is_letter
returns-then-is_letter c =
    reads_first 120 (read_name Xscale) (read_name Ppc405lp) (sym c.is_letter.ensures ∙ c.if-is_letter.true)
    (shown (λ _. Xscale) (literal (chip_name Xscale)) (Ok tt) c.in_ok-literal.ensures.reads)

pub returns-in_err-literal-2 : goal.returns-in_err-literal-2
returns-in_err-literal-2 c = handed _ c.from_residual-in_err-literal-2.ensures.1
    (reads_second 120 (read_name Xscale) (read_name Ppc405lp) (sym c.is_letter.ensures ∙ c.if-is_letter.false)
    (shown (λ _. Ppc405lp) (literal (chip_name Ppc405lp)) _ c.in_err-literal-2.ensures.reads))

pub returns : goal.returns
returns c =
    reads_second 120 (read_name Xscale) (read_name Ppc405lp) (sym c.is_letter.ensures ∙ c.if-is_letter.false)
    (shown (λ _. Ppc405lp) (literal (chip_name Ppc405lp)) (Ok tt) c.in_ok-literal-2.ensures.reads)
