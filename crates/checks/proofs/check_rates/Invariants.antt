-- The rates. The invariant: none before the place in hand is at fault.
-- Assumes nothing.
use Prim.Native.Nat.{ℕ, ◌<◌}
use Rattle.taskset.specs.Refusals.{RateFault}
use Rattle.checks.proofs.check_rates.Given as goal

abbrev pub invariant-loop-q : goal.invariant-loop-q
invariant-loop-q l = (j : ℕ) → j < l.q → RateFault l.fn.layout l.s j → ⊥
