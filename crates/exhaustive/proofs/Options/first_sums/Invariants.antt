-- The invariant: the sums of the tasks before the one in hand.
-- Assumes nothing.
use mathlib.Core.Path.{◌≡◌}
use lib.ListN.{replicate}
use Rattle.numbers.specs.Numbers.{total}
use Rattle.engine.specs.Arrays.{option_at}
use Rattle.exhaustive.proofs.Options.first_sums.Given as goal

abbrev pub invariant-loop-t : goal.invariant-loop-t
invariant-loop-t l = (l.sums.load ≡ total (option_at l.self.loads.now) l.t (replicate 32 1)) ×
    (l.sums.cost ≡ total (option_at l.self.cost.now) l.t (replicate 32 1))
