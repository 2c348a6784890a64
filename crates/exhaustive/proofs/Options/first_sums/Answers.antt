use Prim.Native.Nat.{◌<◌}
use mathlib.Core.Path.{◌≡◌, sym}
use native.Mathlib.Omega.{arith}
use Rattle.numbers.proofs.Sums.{total-none}
use Rattle.engine.specs.Arrays.{load_bound, energy_bound}
use Rattle.exhaustive.proofs.Hands.{ones_low, ones_turn, ones_hand}
use Rattle.exhaustive.proofs.Options.first_sums.Goals as goal

pub loop-t-init : goal.loop-t-init
loop-t-init c = (sym (total-none _ _), sym (total-none _ _))

pub overflow_add-sums-in-loop-t : goal.overflow_add-sums-in-loop-t
overflow_add-sums-in-loop-t c =
    omega (arith, ones_low c.args.self.cost.now c.loop-t.t energy_bound c.args.self.posed.costs_fit (omega arith) c.loop-t.invariant.1)

pub overflow_add-sums-in-loop-t-3 : goal.overflow_add-sums-in-loop-t-3
overflow_add-sums-in-loop-t-3 c =
    omega (arith, ones_low c.args.self.loads.now c.loop-t.t load_bound c.args.self.posed.loads_fit (omega arith) c.loop-t.invariant.0)

pub loop-t-preserved : goal.loop-t-preserved
loop-t-preserved c = let few : c.loop-t.t < 32 = omega arith in (
  ones_turn c.args.self.loads.now c.loop-t.t few c.loop-t.invariant.0,
  ones_turn c.args.self.cost.now c.loop-t.t few c.loop-t.invariant.1,
)

pub returns : goal.returns
returns c = let e : c.loop-t.t ≡ c.args.self.q.tasks = omega arith in
    ones_hand c.args.self.q c.args.self.posed (rw (← e) c.loop-t.invariant.0) (rw (← e) c.loop-t.invariant.1)
