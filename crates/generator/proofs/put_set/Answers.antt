-- The words before the tasks, then the tasks.
-- Assumes nothing.
use Rattle.std.proofs.Common.{arith}
use Rattle.draws.proofs.Sizes.{set_size}
use Rattle.generator.proofs.Parts.{set-written}
use Rattle.generator.proofs.put_set.Goals as goal

pub put_front-requires : goal.put_front-requires
put_front-requires c = omega (arith, c.requires.1, set_size c.args.seed c.args.n)

pub put_tasks-requires : goal.put_tasks-requires
put_tasks-requires c = (c.requires.0, omega (arith, c.requires.1, c.put_front.auto.list, set_size c.args.seed c.args.n))

pub returns : goal.returns
returns c = set-written c.args.seed c.args.n c.args.list.now _ _ c.put_front.ensures c.put_tasks.ensures
