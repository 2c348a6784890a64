use Prim.Native.Nat.{◌*◌, ◌<◌}
use native.Mathlib.Nat.{mul-le-mul_right}
use native.Mathlib.Omega.{arith}
use Rattle.engine.proofs.Adding.{energies_low}
use Rattle.engine.proofs.Units.{tried_start, tried_turn, tried_used, tried_low, stops_true, stops_false}
use Rattle.exhaustive.proofs.Chosen.{best_least}
use Rattle.exhaustive.proofs.find_unit.Goals as goal

pub least_power-unit-requires : goal.least_power-unit-requires
least_power-unit-requires c = rw c.fastest_sum.ensures (energies_low c.args.energies.now _ _ c.requires.energies_fit c.requires.asked.tasks)

pub loop-q-init : goal.loop-q-init
loop-q-init c = let a = c.args in
    tried_start a.q a.loads.now a.energies.now c.fastest_sum.ensures c.least_power-unit.ensures

pub stops-requires : goal.stops-requires
stops-requires c = let g = c.requires.asked in
    let low = tried_low g c.loop-q.invariant (best_least c.best_at-best.ensures) in
    (g.tasks, omega (arith, mul-le-mul_right c.best_at-best.result.sums.cost g.slacks.1))

pub returns-then-stops : goal.returns-then-stops
returns-then-stops c = record {
  exponent = c.loop-q.unit.exponent;
  unit_is = c.loop-q.unit.power;
  used =
      tried_used c.loop-q.invariant (best_least c.best_at-best.ensures)
      (stops_true _ _ _ (rw c.stops.ensures at c.if-stops.true));
  best = c.best_at-best.ensures;
}

pub halved-unit-requires : goal.halved-unit-requires
halved-unit-requires c = (stops_false _ _ _ (rw c.stops.ensures at c.if-stops.false)).0

pub loop-q-preserved : goal.loop-q-preserved
loop-q-preserved c =
    let goes_on : (0 < c.loop-q.unit.exponent) × (c.args.q.slack * c.best_at-best.result.sums.cost < 2000 * c.args.q.tasks) = stops_false _ _ _ (rw c.stops.ensures at c.if-stops.false) in
    tried_turn c.loop-q.invariant (best_least c.best_at-best.ensures) goes_on.0 goes_on.1 c.halved-unit.ensures
