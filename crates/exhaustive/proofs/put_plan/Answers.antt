use mathlib.Core.Path.{refl}
use Rattle.exhaustive.proofs.Counting.{put_start, put_turn}
use Rattle.exhaustive.proofs.put_plan.Goals as goal

pub loop-t-init : goal.loop-t-init
loop-t-init c = put_start c.args.rates c.args.tasks c.args.rank c.args.plan.now

pub loop-t-preserved : goal.loop-t-preserved
loop-t-preserved c = put_turn c.requires c.loop-t.invariant c.loop-t-test.true refl
