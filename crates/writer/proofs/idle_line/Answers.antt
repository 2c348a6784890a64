-- The idle line, where there is idle energy.
-- Assumes nothing.
use Rattle.writer.specs.Lines.{idle_line}
use Rattle.writer.proofs.idle_line.Goals as goal

pub shown-requires : goal.shown-requires
unfolding idle_line
shown-requires g c = c.requires

pub returns : goal.returns
unfolding idle_line
returns g c = c.shown.ensures
