-- The rest is the buffer of a sink, and is back.
-- Assumes nothing.
use Rattle.std.proofs.Common.{refl, rules}
use Rattle.printer.proofs.Puts.{from_front, front}
use Rattle.writer.proofs.put_idle.Goals as goal

pub idle_line-requires : goal.idle_line-requires
idle_line-requires c = from_front refl c.requires

pub returns : goal.returns
returns c = front (search rules) c.idle_line.ensures.added
