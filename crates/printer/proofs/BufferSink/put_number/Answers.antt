-- The rest was lent, and is back.
-- Assumes nothing.
use mathlib.Core.Path.{refl}
use native.Mathlib.Omega.{arith}
use Rattle.printer.proofs.Puts.{lent}
use Rattle.printer.proofs.BufferSink.put_number.Goals as goal

pub returns : goal.returns
returns c = record { same = refl; fits = c.requires; added = lent (omega arith) c.put_number.ensures }
