-- Check 8. The invariant: every word before the place in hand is a rate number.
-- Assumes nothing.
use Prim.Native.Nat.{ℕ, ◌≤◌, ◌<◌}
use mathlib.Core.Path.{◌≡◌}
use mathlib.Core.Bool.{true}
use lib.ListN.{get_or}
use Rattle.numbers.specs.Numbers.{between}
use Rattle.walk.proofs.check_plan.Given as goal

abbrev pub invariant-loop-k : goal.invariant-loop-k
invariant-loop-k l = (l.k ≤ l.n) × ((j : ℕ) → j < l.k → between 1 l.m (get_or l.plan j 0) ≡ true)
