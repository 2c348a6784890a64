-- The options of the set, and check 7.
-- Assumes nothing.
use mathlib.Core.Path.{refl}
use Rattle.options.proofs.Posing.{none_fits, posed}
use Rattle.options.proofs.pose.Goals as goal

pub returns-then-is_too_much-clause-posed : goal.returns-then-is_too_much-clause-posed
returns-then-is_too_much-clause-posed c = (
  refl,
  none_fits c.requires.counted c.requires.set_given c.put_tasks.ensures c.fastest_sum-fastest.ensures
      c.if-is_too_much.true,
)

pub returns-clause-posed : goal.returns-clause-posed
returns-clause-posed c =
    posed c.requires.counted c.requires.set_given c.put_tasks.ensures c.fastest_sum-fastest.ensures
    c.if-is_too_much.false c.slack_of.ensures
