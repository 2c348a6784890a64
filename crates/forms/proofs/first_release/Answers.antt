-- The next byte tells whether the form stands there.
-- Assumes nothing.
use mathlib.Core.Path.{◌≡◌}
use mathlib.Core.Bool.{true}
use mathlib.Core.Option.{none}
use native.Mathlib.Omega.{arith}
use lib.ListN.{drop}
use Rattle.std.specs.Prelude.{Ok, Err}
use Rattle.text.specs.Text.{bytes, first_of}
use Rattle.text.specs.Reading.{starts, field, read_first_form, read_first}
use Rattle.scanner.proofs.Classes.{there, not_there, not_space}
use Rattle.scanner.proofs.Places.{shown, piece_departs, closed, handed}
use Rattle.forms.proofs.Words.{is_absent, is_present}
use Rattle.forms.proofs.first_release.Goals as goal
use Rattle.forms.proofs.first_release.Goals.{In-Space}

stands : (c : In-Space) → let x = c.args.text.now in starts 32 (drop x.at x.text.now) ≡ true
stands c = there _ _ 32 32 c.in-Space.ensures.inside (omega (arith, c.in-Space.ensures))

pub returns-in_default : goal.returns-in_default
returns-in_default c = let x = c.args.text.now in
    let none_there = not_there x.text.now x.at 32 (not_space _ _ c.step.result c.step.ensures c.in_default.not-Space) in
    shown first_of read_first (Ok none) (is_absent 32 read_first_form none_there)

pub returns-in_err-a : goal.returns-in_err-a
returns-in_err-a c = handed _ c.from_residual.ensures.1 (shown first_of read_first _
    (is_present 32 read_first_form _ (stands (goal.at.returns-in_err-a c).In-Space)
    (piece_departs (field (bytes " (from ")) (bytes ")") c.in_err-a.ensures.reads)))

pub returns-in_err-literal : goal.returns-in_err-literal
returns-in_err-literal c = handed _ c.from_residual-in_err-literal.ensures.1 (shown first_of read_first _
    (is_present 32 read_first_form _ (stands (goal.at.returns-in_err-literal c).In-Space)
    (closed (field (bytes " (from ")) (bytes ")") (Err _) c.in_ok-a.ensures.reads c.in_err-literal.ensures.reads)))

pub returns : goal.returns
returns c = shown first_of read_first _
    (is_present 32 read_first_form _ (stands (goal.at.returns c).In-Space)
    (closed (field (bytes " (from ")) (bytes ")") (Ok _) c.in_ok-a.ensures.reads c.in_ok-literal.ensures.reads))
