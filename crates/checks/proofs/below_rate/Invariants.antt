-- The first energy below what idle ticks draw. The invariant: none before the rate number in hand.
-- Assumes nothing.
use Prim.Native.Nat.{ℕ, ◌≤◌, ◌<◌}
use Rattle.taskset.specs.Sets.{Below}
use Rattle.checks.proofs.below_rate.Given as goal

abbrev pub invariant-loop-r : goal.invariant-loop-r
invariant-loop-r l = (k : ℕ) → 1 ≤ k → k < l.r → Below l.set.layout l.set.words.now l.t k → ⊥
