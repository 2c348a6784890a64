-- A fixed string, and then a number.
-- Assumes nothing.
use mathlib.Core.Path.{refl}
use Rattle.text.specs.Reading.{number}
use Rattle.scanner.proofs.Places.{skip_departs, skipped, anywhere, handed, kept}
use Rattle.scanner.proofs.Cursor.field.Goals as goal

pub returns-in_err-literal-clause-reads : goal.returns-in_err-literal-clause-reads
returns-in_err-literal-clause-reads c = handed _ c.from_residual.ensures.1 (skip_departs _ number c.in_err-literal.ensures.reads)

pub returns-in_err-literal-clause-stays : goal.returns-in_err-literal-clause-stays
returns-in_err-literal-clause-stays c = kept c.args.self.now c.literal.new.self _ _ c.from_residual.ensures.1 c.in_err-literal.ensures.stays

pub returns-in-Ok-clause-reads : goal.returns-in-Ok-clause-reads
returns-in-Ok-clause-reads c = skipped _ number c.in_ok-literal.ensures.reads c.in-Ok.ensures

pub returns-in-Err-clause-reads : goal.returns-in-Err-clause-reads
returns-in-Err-clause-reads c = anywhere refl (skipped _ number c.in_ok-literal.ensures.reads c.in-Err.ensures)
