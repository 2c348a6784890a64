-- A task's line is a line of two numbers.
-- Assumes nothing.
use Rattle.lines.specs.Lines.{rate_line}
use Rattle.lines.proofs.rate.Goals as goal

pub pair-requires : goal.pair-requires
unfolding rate_line
pair-requires g c = c.requires

pub returns : goal.returns
unfolding rate_line
returns g c = c.pair.ensures
