use mathlib.Core.Path.{◌≡◌}
use Rattle.numbers.specs.Numbers.{total}
use Rattle.engine.specs.Arrays.{option_at}
use Rattle.engine.proofs.sum.Given as goal

abbrev pub invariant-loop-t : goal.invariant-loop-t
invariant-loop-t l = l.s ≡ total (option_at l.options) l.t l.plan
