-- The rates stand between their count and the task count.
-- Assumes nothing.
use native.Mathlib.Omega.{arith}
use Rattle.writer.proofs.Lists.{counts_of, rates_few, rates_inside, rates_are}
use Rattle.writer.proofs.Listed.rates.Goals as goal

pub task_count_place-end-requires : goal.task_count_place-end-requires
task_count_place-end-requires c = omega (arith, rates_few (counts_of c.args.self.now))

pub slice_bounds-result-end : goal.slice_bounds-result-end
slice_bounds-result-end c = omega (arith, rates_inside (counts_of c.args.self.now))

pub returns : goal.returns
returns c = rates_are (counts_of c.args.self.now) _ _ c.rate_place-start.ensures c.task_count_place-end.ensures
