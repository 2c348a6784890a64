-- The first letter tells whether the line stands there.
-- Assumes nothing.
use mathlib.Core.Path.{◌≡◌, sym, ◌∙◌}
use mathlib.Core.Bool.{true}
use mathlib.Core.Option.{none}
use lib.ListN.{drop}
use Rattle.std.specs.Prelude.{Ok, Err}
use Rattle.text.specs.Text.{bytes}
use Rattle.text.specs.Reading.{starts, field, read_idle_line, read_idle}
use Rattle.scanner.proofs.Places.{shown, piece_departs, closed, handed}
use Rattle.forms.specs.Forms.{given}
use Rattle.forms.proofs.Words.{is_absent, is_present}
use Rattle.forms.proofs.idle_line.Goals as goal
use Rattle.forms.proofs.idle_line.Goals.{Else-not-is_letter}

stands : (c : Else-not-is_letter) → let x = c.args.text.now in starts 105 (drop x.at x.text.now) ≡ true
stands c = sym c.is_letter.ensures ∙ c.if-not-is_letter.false

pub returns-then-not-is_letter : goal.returns-then-not-is_letter
returns-then-not-is_letter c =
    shown given read_idle (Ok none) (is_absent 105 read_idle_line (sym c.is_letter.ensures ∙ c.if-not-is_letter.true))

pub returns-in_err-h : goal.returns-in_err-h
returns-in_err-h c = handed _ c.from_residual.ensures.1 (shown given read_idle _
    (is_present 105 read_idle_line _ (stands (goal.at.returns-in_err-h c).Else-not-is_letter)
    (piece_departs (field (bytes "idle ")) (bytes ")\n(") c.in_err-h.ensures.reads)))

pub returns-in_err-literal : goal.returns-in_err-literal
returns-in_err-literal c = handed _ c.from_residual-in_err-literal.ensures.1 (shown given read_idle _
    (is_present 105 read_idle_line _ (stands (goal.at.returns-in_err-literal c).Else-not-is_letter)
    (closed (field (bytes "idle ")) (bytes ")\n(") (Err _) c.in_ok-h.ensures.reads c.in_err-literal.ensures.reads)))

pub returns : goal.returns
returns c = shown given read_idle _
    (is_present 105 read_idle_line _ (stands (goal.at.returns c).Else-not-is_letter)
    (closed (field (bytes "idle ")) (bytes ")\n(") (Ok _) c.in_ok-h.ensures.reads c.in_ok-literal.ensures.reads))
