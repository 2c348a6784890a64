-- The lines of a plan, or of the planner's refusal.
-- Assumes nothing.
use native.Mathlib.Omega.{arith}
use Rattle.taskset.specs.Refusals.{number, second}
use Rattle.lines.proofs.Lengths.{refused_short}
use Rattle.answer.proofs.Calls.{set_refused}
use Rattle.answer.proofs.answer_set.Goals as goal

pub put_refused-requires : goal.put_refused-requires
put_refused-requires c = let r = c.in-Err.r in
    omega (arith, refused_short (number r) (second r))

pub returns-in-Err : goal.returns-in-Err
returns-in-Err c = set_refused c.args.set.now _ _ _ c.in-Err.r c.in-Err.ensures c.put_refused.ensures
