-- The choice, from the search for the unit to the words cleared.
-- Assumes nothing.
use Prim.Native.Nat.{ℕ}
use mathlib.Core.List.{List}
use Rattle.engine.specs.Arrays.{load_bound, Small, SumReady}
use Rattle.engine.proofs.Adding.{as_loads}
use Rattle.choice.proofs.Choosing.{search_ready, way_ready, plan_ready, chose}
use Rattle.choice.proofs.choose.Goals as goal

pub find_unit-used-requires : goal.find_unit-used-requires
find_unit-used-requires c = search_ready c.requires

pub way_back-requires : goal.way_back-requires
way_back-requires c = way_ready c.requires c.find_unit-used.ensures

pub sum-requires : goal.sum-requires
sum-requires c =
    let summed : (options : List ℕ) → Small load_bound options → SumReady c.args.q.tasks options c.way_back.new.plan = plan_ready c.requires c.find_unit-used.ensures c.way_back.ensures in
    summed c.args.loads.now c.requires.engine.loads_fit

pub sum-requires-2 : goal.sum-requires-2
sum-requires-2 c =
    let summed : (options : List ℕ) → Small load_bound options → SumReady c.args.q.tasks options c.way_back.new.plan = plan_ready c.requires c.find_unit-used.ensures c.way_back.ensures in
    summed c.args.energies.now (as_loads c.args.energies.now c.requires.engine.energies_fit)

pub returns : goal.returns
returns c = chose c.requires c.find_unit-used.ensures c.way_back.ensures c.sum.ensures c.sum-2.ensures
    c.last_column-columns.ensures (c.fill.ensures.after (λ y h. h))
