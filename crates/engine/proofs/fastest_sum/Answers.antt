use mathlib.Core.Path.{◌∙◌}
use Rattle.engine.proofs.Adding.{fastest_same, fastest_ready}
use Rattle.engine.proofs.fastest_sum.Goals as goal

pub sum-requires : goal.sum-requires
sum-requires c = fastest_ready c.args.tasks c.args.rates c.requires.0 c.args.options.now c.requires.1 c.requires.2

pub returns : goal.returns
returns c = c.sum.ensures ∙ fastest_same c.args.tasks c.args.rates c.requires.0 _
