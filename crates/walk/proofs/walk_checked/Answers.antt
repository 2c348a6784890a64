-- The walk of a set and a plan that have passed the checks.
-- Assumes nothing.
use mathlib.Core.List.{List}
use Prim.Native.Nat.{ℕ}
use native.Mathlib.Omega.{arith}
use Rattle.walk.proofs.Calls.{set_given, given_size, hyper_fits, sound_plan, run_ready, says_walked}
use Rattle.walk.proofs.walk_checked.Goals as goal

pub tasks_of-requires : goal.tasks_of-requires
tasks_of-requires c = let plan : List ℕ = c.args.plan.now in
    record {
      set_given = set_given _ plan _ _ _ c.requires;
      sound_plan = sound_plan _ plan _ _ _ c.requires;
    }

pub slice_bounds-tasks-end : goal.slice_bounds-tasks-end
slice_bounds-tasks-end c = omega (arith, c.tasks_of.ensures.size, (set_given _ c.args.plan.now _ _ _ c.requires).few)

pub slice_bounds-given-end : goal.slice_bounds-given-end
slice_bounds-given-end c = omega (arith, given_size _ c.args.plan.now _ _ _ c.requires _ c.tasks_of.ensures)

pub overflow_cast-measured : goal.overflow_cast-measured
overflow_cast-measured c = omega (arith, hyper_fits c.args.set.now c.args.plan.now _ _ _ c.requires)

pub last_tick-end-requires : goal.last_tick-end-requires
last_tick-end-requires c = hyper_fits c.args.set.now c.args.plan.now _ _ _ c.requires

pub run-requires : goal.run-requires
run-requires c = run_ready c.args.set.now c.args.plan.now _ _ _ c.requires _ c.tasks_of.ensures _ c.last_tick-end.ensures

pub returns : goal.returns
returns c = says_walked c.args.set.now c.args.plan.now _ _ _ c.requires _ c.tasks_of.ensures _ c.last_tick-end.ensures c.run.result c.run.ensures
