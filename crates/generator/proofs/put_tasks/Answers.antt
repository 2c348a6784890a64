use Rattle.std.proofs.Common.{length, arith}
use Rattle.generator.proofs.Parts.{none_drawn, one_drawn, all_drawn, task-room}
use Rattle.generator.proofs.put_tasks.Goals as goal

pub loop-t-init : goal.loop-t-init
loop-t-init c = none_drawn _ _ _

pub period_place-at-requires : goal.period_place-at-requires
period_place-at-requires c = (omega arith, omega (arith, c.requires.0))

pub put_task-state-requires : goal.put_task-state-requires
put_task-state-requires c = let e = c.period_place-at.ensures in
    omega (arith, e, c.loop-t.invariant.same, task-room c.args.n c.loop-t.t (length c.args.list.now) (omega arith) c.requires.1)

pub loop-t-preserved : goal.loop-t-preserved
loop-t-preserved c = one_drawn c.loop-t.invariant _ _ (omega arith) (omega (arith, c.requires.1)) c.put_task-state.auto.list c.put_task-state.ensures.0
    (rw c.period_place-at.ensures at c.put_task-state.ensures.1)

pub shape_of-list : goal.shape_of-list
shape_of-list c = c.loop-t.invariant.same

pub returns : goal.returns
returns c = all_drawn c.loop-t.invariant (omega arith)
