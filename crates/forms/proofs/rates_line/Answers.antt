-- The rates behind the line's name.
-- Assumes nothing.
use mathlib.Core.Path.{ap}
use lib.ListN.{length}
use Rattle.text.specs.Text.{bytes, rates}
use Rattle.text.specs.Reading.{skip, numbers}
use Rattle.scanner.proofs.Places.{skip_departs, skipped, lost}
use Rattle.forms.specs.Forms.{plain}
use Rattle.forms.specs.declared.Clock.TheVariants.{Rates}
use Rattle.forms.proofs.Gives.{refuses, gives, handed, map_gives, told}
use Rattle.forms.proofs.rates_line.Goals as goal

pub returns-in_err-literal : goal.returns-in_err-literal
returns-in_err-literal c = handed _ _ _ _ c.from_residual.ensures.1
    (map_gives rates (skip (bytes "rates") (numbers 2 6))
    (refuses _ _ _ (skip_departs (bytes "rates") (numbers 2 6) c.in_err-literal.ensures.reads)))

pub returns-in_err-n : goal.returns-in_err-n
returns-in_err-n c = handed _ _ _ _ c.from_residual-in_err-n.ensures.1
    (map_gives rates (skip (bytes "rates") (numbers 2 6))
    (refuses _ _ _ (skipped (bytes "rates") (numbers 2 6) c.in_ok-literal.ensures.reads (lost length (numbers 2 6) c.in_err-n.ensures.reads))))

pub returns : goal.returns
returns c = let t = told length plain (numbers 2 6) c.in_ok-n.ensures in
    map_gives rates (skip (bytes "rates") (numbers 2 6))
    (gives _ _ _ (skipped (bytes "rates") (numbers 2 6) c.in_ok-literal.ensures.reads t.reads) (ap Rates t.shows) t.wrote)
