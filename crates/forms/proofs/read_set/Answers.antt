-- Where the text departs, what was read of it stays as it is told, wherever the cursor is put.
-- Assumes nothing.
use Rattle.std.proofs.Common.{rules}
use Rattle.scanner.proofs.Places.{anywhere}
use Rattle.forms.proofs.read_set.Goals as goal

pub returns-in-Err-clause-gives : goal.returns-in-Err-clause-gives
returns-in-Err-clause-gives c = record { reads = anywhere (search rules) c.in-Err.ensures.reads; wrote = c.in-Err.ensures.wrote }
