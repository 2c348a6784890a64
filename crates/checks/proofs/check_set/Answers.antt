-- Checks 2 and 3, then 4.
-- Assumes nothing.
use mathlib.Core.List.{[], ◌∷◌}
use Rattle.taskset.specs.Refusals.{word_checks, hyper_check}
use Rattle.checks.proofs.Judging.{of_counts, after}
use Rattle.checks.proofs.check_set.Goals as goal

pub invariant_of-set : goal.invariant_of-set
invariant_of-set c = record { counts = of_counts _ _ c.in_ok-counts.ensures }

pub returns : goal.returns
returns c = let s = c.args.s.now in
    after c.args.layout s (word_checks c.args.layout s) (hyper_check c.args.layout s ∷ []) c.in_ok-counts.ensures.0
    c.check_hyper.result c.check_hyper.ensures
