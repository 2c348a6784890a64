-- The costs of the unit, then the best of all plans by them.
-- Assumes nothing.
use Rattle.exhaustive.proofs.Chosen.{all_posed, some_best, all_chosen}
use Rattle.exhaustive.proofs.best_at.Goals as goal

pub invariant_of-options : goal.invariant_of-options
invariant_of-options c = record { posed = all_posed c.requires _ c.round_up.ensures }

pub unwrap-requires : goal.unwrap-requires
unwrap-requires c = some_best c.requires c.args.unit.exponent c.round_up.ensures _ c.best_plan.ensures

pub returns : goal.returns
returns c = all_chosen c.requires c.args.unit.exponent c.round_up.ensures (rw c.unwrap.ensures at c.best_plan.ensures)
