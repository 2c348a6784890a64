use mathlib.Core.Path.{refl}
use native.Mathlib.Omega.{arith}
use Rattle.choice.proofs.Ways.{way_start, way_sound, way_turn, way_whole}
use Rattle.choice.proofs.way_back.Goals as goal

pub loop-task-init : goal.loop-task-init
loop-task-init c = way_start c.requires

pub overflow_sub-left : goal.overflow_sub-left
overflow_sub-left c = (way_sound c.requires c.loop-task.invariant c.loop-task-test.true c.rate_at-r.ensures.0).allowed

pub loop-task-preserved : goal.loop-task-preserved
loop-task-preserved c = way_turn c.requires c.loop-task.invariant c.loop-task-test.true c.rate_at-r.ensures.0 refl

pub returns : goal.returns
returns c = way_whole c.requires c.loop-task.invariant (omega arith)
