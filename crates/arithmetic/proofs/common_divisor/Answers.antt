use mathlib.Core.Path.{◌∙◌}
use native.Mathlib.Omega.{arith}
use Rattle.numbers.proofs.Halving.{steps_most, common_is_power}
use Rattle.numbers.proofs.Reached.{reached_start, reached_end, reached_falls, reached_before, reached_next}
use Rattle.arithmetic.proofs.common_divisor.Goals as goal

pub loop-p-init : goal.loop-p-init
loop-p-init c = reached_start c.args.x c.args.y c.requires.0 c.requires.1

pub step-p-requires : goal.step-p-requires
step-p-requires c = let k = common_is_power _ _ in (
  (k.0, c.common_power-u.ensures ∙ k.1),
  omega (arith, reached_before c.loop-p.invariant c.loop-p-test.true, steps_most c.args.x c.args.y c.requires.0 c.requires.1 c.requires.2),
)

pub loop-p-smaller : goal.loop-p-smaller
loop-p-smaller c = reached_falls c.loop-p.invariant c.loop-p-test.true c.common_power-u.result c.step-p.ensures.0

pub loop-p-preserved : goal.loop-p-preserved
loop-p-preserved c = reached_next c.loop-p.invariant c.loop-p-test.true c.common_power-u.ensures c.step-p.ensures.0 c.step-p.ensures.1

pub returns : goal.returns
returns c = let e = reached_end c.loop-p.invariant (omega arith) in
    (e.0, e.1, omega (arith, e.1, steps_most c.args.x c.args.y c.requires.0 c.requires.1 c.requires.2))
