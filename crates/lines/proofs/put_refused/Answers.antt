-- The line of a refusal, by its two numbers.
-- Assumes nothing.
use Rattle.std.proofs.Common.{refl, rules}
use Rattle.printer.proofs.Puts.{from_front, front}
use Rattle.lines.specs.Lines.{refused_line}
use Rattle.lines.proofs.put_refused.Goals as goal

pub pair-requires : goal.pair-requires
unfolding refused_line
pair-requires c = rw (c.number_of.ensures, c.second_of.ensures) (from_front refl c.requires)

pub returns : goal.returns
unfolding refused_line
returns c = rw (← c.number_of.ensures, ← c.second_of.ensures) (front (search rules) c.pair.ensures.added)
