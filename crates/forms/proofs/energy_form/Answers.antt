-- The energy form: its name, the energies, its end.
-- Assumes nothing.
use lib.ListN.{length}
use Rattle.text.specs.Text.{bytes}
use Rattle.text.specs.Reading.{up_to, numbers}
use Rattle.scanner.proofs.Places.{skip_departs, skipped, piece_departs, lost}
use Rattle.forms.specs.Forms.{plain}
use Rattle.forms.proofs.Gives.{refuses, handed, skip_gives, told, closes}
use Rattle.forms.proofs.Words.{some_energies}
use Rattle.forms.proofs.energy_form.Goals as goal

pub returns-in_err-literal : goal.returns-in_err-literal
returns-in_err-literal c = let rest = up_to (numbers c.args.m 0) (bytes ")") in
    rw (some_energies c.args.m c.requires.0) (handed _ _ _ _ c.from_residual.ensures.1
    (refuses _ _ _ (skip_departs (bytes " (energy") rest c.in_err-literal.ensures.reads)))

pub returns-in_err-numbers : goal.returns-in_err-numbers
returns-in_err-numbers c = let ns = numbers c.args.m 0 in
    rw (some_energies c.args.m c.requires.0) (handed _ _ _ _ c.from_residual-in_err-numbers.ensures.1
    (refuses _ _ _ (skipped (bytes " (energy") (up_to ns (bytes ")")) c.in_ok-literal.ensures.reads
    (piece_departs ns (bytes ")") (lost length ns c.in_err-numbers.ensures.reads)))))

pub returns : goal.returns
returns c = let ns = numbers c.args.m 0 in
    let t = told length plain ns c.in_ok-numbers.ensures in
    rw (some_energies c.args.m c.requires.0) (skip_gives (bytes " (energy") (up_to ns (bytes ")")) c.in_ok-literal.ensures.reads
    (closes plain ns (bytes ")") _ t.reads t.wrote c.literal-2.ensures.reads))
