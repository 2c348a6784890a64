-- The invariant: what was kept is the best of the plans before the one with rate r for task 1.
-- Assumes nothing.
use Prim.Native.Nat.{◌+◌, ◌-◌, ◌≤◌}
use Rattle.engine.specs.Arrays.{arrays}
use Rattle.exhaustive.specs.Engine.{Seen}
use Rattle.exhaustive.proofs.Options.block.Given as goal

abbrev pub invariant-loop-r : goal.invariant-loop-r
invariant-loop-r l = Seen (arrays l.self.q l.self.loads.now l.self.cost.now) (l.rank + (l.r - 1)) l.best × (l.r ≤ l.self.q.rates + 1)
