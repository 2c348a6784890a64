-- Check 5, or check 11.
-- Assumes nothing.
use native.Mathlib.Omega.{arith}
use Rattle.layout.proofs.Whole.{slack_in}
use Rattle.planner.proofs.own_check.Goals as goal

pub work_needed-w-requires : goal.work_needed-w-requires
work_needed-w-requires c = let set = c.args.set.now in (
  omega (arith, set.counts.numbered, set.counts.whole.tasks_range.1),
  rw c.slack.ensures (slack_in set.layout set.words.now set.counts.whole).0,
)
