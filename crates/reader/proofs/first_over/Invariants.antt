-- The first task with an energy over the largest. The invariant: none before the task in hand.
-- Assumes nothing.
use Prim.Native.Nat.{ℕ, ◌<◌}
use Rattle.reader.specs.Over.{OverIn}
use Rattle.reader.proofs.first_over.Given as goal

abbrev pub invariant-loop-t : goal.invariant-loop-t
invariant-loop-t l = (k : ℕ) → k < l.t → OverIn l.set l.m k → ⊥
