-- The rest is the buffer of a sink, and is back.
-- Assumes nothing.
use Rattle.std.proofs.Common.{refl, rules}
use Rattle.printer.proofs.Puts.{from_front, front}
use Rattle.writer.proofs.put_task.Goals as goal

pub task_line-requires-clause-fits : goal.task_line-requires-clause-fits
task_line-requires-clause-fits c = from_front refl c.requires.fits

pub returns : goal.returns
returns c = front (search rules) c.task_line.ensures.added
