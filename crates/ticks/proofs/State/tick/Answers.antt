-- The ticks of a call: all idle, or the picked job runs.
-- Assumes nothing.
use Rattle.ticks.proofs.Stretches.{ticked-idle, ticked_busy, one_or_none}
use mathlib.Core.Path.{ap, ◌∙◌}
use Rattle.schedule.specs.Counted.{count}
use Rattle.ticks.proofs.State.tick.Goals as goal

pub returns-in_default : goal.returns-in_default
returns-in_default c = ticked-idle c.requires c.in_default.ensures

pub returns : goal.returns
returns c =
    rw c.then_some-self.ensures
    (ticked_busy c.requires c.in-Some.job c.min-ran.result c.from-cut.result c.in-Some.ensures c.min-ran.ensures
    (c.from-cut.ensures ∙ one_or_none c.preempts.result ∙ ap count c.preempts.ensures))
