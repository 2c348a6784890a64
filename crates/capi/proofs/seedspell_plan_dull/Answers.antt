-- The dull engine's entry: that of a list planned by it, without the working words.
-- Assumes nothing.
use mathlib.Core.Path.{refl}
use Rattle.entries.proofs.PlanEntries.{without_work}
use Rattle.capi.proofs.seedspell_plan_dull.Goals as goal

pub returns : goal.returns
returns c = without_work (c.plan_values-answer.ensures.gives _ _ _ refl c.leave.ensures)
