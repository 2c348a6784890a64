-- The walk: what its loops hold is `AtTick`, `AtTask` and `InStretch`.
-- Assumes nothing.
use Prim.Native.Nat.{◌-◌}
use lib.ListN.{length}
use Rattle.ticks.specs.Arrays.{task_at}
use Rattle.ticks.proofs.Stretches.{InStretch}
use Rattle.ticks.proofs.Loops.{AtTick, AtTask}
use Rattle.ticks.proofs.run.Given as goal

abbrev pub invariant-loop-i : goal.invariant-loop-i
invariant-loop-i l = AtTask (task_at l.tasks) (length l.tasks) l.end l.t l.i l.late l.next l.s

abbrev pub invariant-loop-t : goal.invariant-loop-t
invariant-loop-t l = InStretch (length l.tasks) l.initial.t l.next l.t l.initial.s l.s

abbrev pub decreases-loop-t : goal.decreases-loop-t
decreases-loop-t l = l.next - l.t

abbrev pub invariant-ticks : goal.invariant-ticks
invariant-ticks l = AtTick (task_at l.tasks) (length l.tasks) l.end l.t l.late l.s

abbrev pub decreases-ticks : goal.decreases-ticks
decreases-ticks l = l.end - l.t
