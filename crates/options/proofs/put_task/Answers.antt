use Rattle.std.proofs.Common.{◌+◌, ◌-◌, ◌*◌, ◌/◌, slice_set}
use mathlib.Core.Path.{◌∙◌}
use native.Mathlib.Omega.{arith}
use Rattle.options.specs.Options.{LaidBoth}
use Rattle.options.proofs.Filling.{both-next, both-more}
use Rattle.options.proofs.put_task.Goals as goal
use Rattle.options.proofs.put_task.Goals.{After-from-energy}

-- This rate's two options as they are written.
more : (c : After-from-energy)
    → LaidBoth c.args.set.now.layout c.args.set.now.words.now c.args.set.now.rates c.args.t (c.loop-r.r + 1)
    (slice_set c.loop-r.loads (c.args.t * 16 + c.loop-r.r) (c.args.hyper / c.from.result * c.from-time.result))
    (slice_set c.loop-r.energies (c.args.t * 16 + c.loop-r.r)
    (c.args.hyper / c.from.result * (c.from-energy.result - c.from-idle.result * c.from-time.result)))
more c =
    both-more c.args.set.now.counts c.requires.set_given c.requires.is_task _ (c.from.ensures ∙ c.period.ensures) c.loop-r.r _ _ _
    (omega arith) (omega arith) _ _ (c.from-time.ensures ∙ c.job_time.ensures) (c.from-energy.ensures ∙ c.energy.ensures)
    (c.from-idle.ensures ∙ c.idle.ensures) c.loop-r.invariant

pub loop-r-preserved : goal.loop-r-preserved
loop-r-preserved c = more (goal.at.loop-r-preserved c).After-from-energy

pub returns-2 : goal.returns-2
returns-2 c =
    both-next c.args.set.now.layout c.args.set.now.words.now c.args.set.now.rates c.args.t (c.loop-r.r + 1) _ _ (omega arith)
    (more (goal.at.returns-2 c).After-from-energy)
