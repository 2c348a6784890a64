use Prim.Native.Nat.{◌*◌, ◌<◌}
use mathlib.Core.Path.{◌∙◌}
use native.Mathlib.Omega.{arith}
use Rattle.engine.proofs.Adding.{energies_low, as_loads}
use Rattle.engine.proofs.Units.{stops_true, stops_false}
use Rattle.choice.proofs.Trying.{trying_start, unit_ready, some_column, least_small, product_small, unit_used, trying_turn}
use Rattle.choice.proofs.find_unit.Goals as goal

pub fastest_sum-requires : goal.fastest_sum-requires
fastest_sum-requires c = (c.requires.asked.tasks, c.requires.asked.rates.1, as_loads c.args.energies.now c.requires.energies_fit)

pub least_power-unit-requires : goal.least_power-unit-requires
least_power-unit-requires c = rw c.fastest_sum.ensures (energies_low c.args.energies.now _ _ c.requires.energies_fit c.requires.asked.tasks)

pub loop-q-init : goal.loop-q-init
loop-q-init c = trying_start c.requires c.fastest_sum.ensures c.least_power-unit.ensures

pub least_energy-requires : goal.least_energy-requires
least_energy-requires c = unit_ready c.requires c.loop-q.invariant c.cut.ensures (omega (arith, c.requires.asked.small))

pub unwrap-least-requires : goal.unwrap-least-requires
unwrap-least-requires c = some_column c.requires c.loop-q.invariant c.cut.ensures c.least_energy.ensures

pub stops-requires : goal.stops-requires
stops-requires c =
    let t = rw c.unwrap-least.ensures at c.least_energy.ensures in
    (c.requires.asked.tasks, omega (arith, product_small c.requires c.loop-q.invariant t.least.0))

pub shape_of-work-then-stops : goal.shape_of-work-then-stops
shape_of-work-then-stops c = c.least_energy.ensures.work_size ∙ c.loop-q.invariant.work_size

pub returns-then-stops : goal.returns-then-stops
returns-then-stops c =
    let t = rw c.unwrap-least.ensures at c.least_energy.ensures in
    unit_used c.requires c.loop-q.invariant c.cut.ensures t (stops_true _ _ _ (rw c.stops.ensures at c.if-stops.true))

pub halved-unit-requires : goal.halved-unit-requires
halved-unit-requires c = (stops_false _ _ _ (rw c.stops.ensures at c.if-stops.false)).0

pub overflow_mul-columns : goal.overflow_mul-columns
overflow_mul-columns c =
    let t = rw c.unwrap-least.ensures at c.least_energy.ensures in
    omega (arith, least_small c.requires c.loop-q.invariant t.least.0)

pub overflow_add-columns-in-loop-q : goal.overflow_add-columns-in-loop-q
overflow_add-columns-in-loop-q c =
    let t = rw c.unwrap-least.ensures at c.least_energy.ensures in
    omega (arith, least_small c.requires c.loop-q.invariant t.least.0)

pub loop-q-smaller : goal.loop-q-smaller
loop-q-smaller c =
    let goes_on : (0 < c.loop-q.unit.exponent) × (c.args.q.slack * c.unwrap-least.result < 2000 * c.args.q.tasks) = stops_false _ _ _ (rw c.stops.ensures at c.if-stops.false) in
    omega (arith, goes_on.0, c.halved-unit.ensures)

pub loop-q-preserved : goal.loop-q-preserved
loop-q-preserved c =
    let t = rw c.unwrap-least.ensures at c.least_energy.ensures in
    trying_turn c.requires c.loop-q.invariant c.cut.ensures t (stops_false _ _ _ (rw c.stops.ensures at c.if-stops.false)) c.halved-unit.ensures
