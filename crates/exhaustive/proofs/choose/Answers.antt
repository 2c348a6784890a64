-- The unit used, then the plan of the rank found, and its energy.
-- Assumes nothing.
use Rattle.engine.proofs.Adding.{as_loads}
use Rattle.exhaustive.proofs.Chosen.{put_ready, plan_ready, engine_chosen}
use Rattle.exhaustive.proofs.choose.Goals as goal

pub put_plan-requires : goal.put_plan-requires
put_plan-requires c = put_ready c.requires c.find_unit-used.ensures

pub sum-energy-requires : goal.sum-energy-requires
sum-energy-requires c = plan_ready c.requires c.find_unit-used.ensures c.put_plan.ensures c.args.energies.now
    (as_loads c.args.energies.now c.requires.engine.energies_fit)

pub returns : goal.returns
returns c = engine_chosen c.requires c.find_unit-used.ensures c.put_plan.ensures c.sum-energy.ensures
