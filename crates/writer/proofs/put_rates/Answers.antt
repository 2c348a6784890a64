-- The rest is the buffer of a sink, and is back.
-- Assumes nothing.
use Rattle.std.proofs.Common.{refl, rules}
use Rattle.printer.proofs.Puts.{from_front, front}
use Rattle.writer.proofs.put_rates.Goals as goal

pub rates_line-requires : goal.rates_line-requires
rates_line-requires c = from_front refl c.requires

pub returns : goal.returns
returns c = front (search rules) c.rates_line.ensures.added
