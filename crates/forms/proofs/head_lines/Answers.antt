-- The slack's line, and then the idle line.
-- Assumes nothing.
use Rattle.std.specs.Prelude.{Ok}
use Rattle.text.specs.Text.{bytes}
use Rattle.text.specs.Reading.{field, skip, both, read_idle, read_head}
use Rattle.scanner.proofs.Places.{shown, first_departs, second, skip_departs, skipped, handed, took, lost}
use Rattle.forms.specs.Forms.{given, head_from}
use Rattle.forms.proofs.head_lines.Goals as goal

pub returns-in_err-slack : goal.returns-in_err-slack
returns-in_err-slack c = handed _ c.from_residual.ensures.1 (shown head_from read_head _
    (first_departs both (field (bytes "(slack ")) (λ _. skip (bytes ")\n(") read_idle) c.in_err-slack.ensures.reads))

pub returns-in_err-literal : goal.returns-in_err-literal
returns-in_err-literal c = handed _ c.from_residual-in_err-literal.ensures.1 (shown head_from read_head _
    (second both (field (bytes "(slack ")) (λ _. skip (bytes ")\n(") read_idle) c.in_ok-slack.ensures.reads _
    (skip_departs (bytes ")\n(") read_idle c.in_err-literal.ensures.reads)))

pub returns-in_err-idle : goal.returns-in_err-idle
returns-in_err-idle c = handed _ c.from_residual-in_err-idle.ensures.1 (shown head_from read_head _
    (second both (field (bytes "(slack ")) (λ _. skip (bytes ")\n(") read_idle) c.in_ok-slack.ensures.reads _
    (skipped (bytes ")\n(") read_idle c.in_ok-literal.ensures.reads (lost given read_idle c.in_err-idle.ensures))))

pub returns : goal.returns
returns c = let idle = took given read_idle c.in_ok-idle.ensures in
    rw (← idle.shows) (shown head_from read_head _
    (second both (field (bytes "(slack ")) (λ _. skip (bytes ")\n(") read_idle) c.in_ok-slack.ensures.reads (Ok idle.item)
    (skipped (bytes ")\n(") read_idle c.in_ok-literal.ensures.reads idle.reads)))
