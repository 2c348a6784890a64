-- The invariant: the plans of the tasks counted, up to one more than the most.
-- Assumes nothing.
use Prim.Native.Nat.{suc, ◌^◌, min}
use mathlib.Core.Path.{◌≡◌}
use Rattle.selection.specs.Plan.{most_plans}
use Rattle.exhaustive.proofs.plan_count.Given as goal

abbrev pub invariant-loop : goal.invariant-loop
invariant-loop l = l.plans ≡ min (l.rates ^ l.counter) (suc most_plans)
