-- From a set to what an engine is asked for it: the arrays give the set's own problem, and some plan fits exactly when
-- the plan with every task at the last rate does.
-- Assumes nothing.
use Prim.Native.Nat.{ℕ, ◌≤◌, ◌<◌}
use mathlib.Core.Path.{◌≡◌, ◌∙◌}
use mathlib.Core.List.{List}
use mathlib.Core.Logic.{◌↔◌}
use native.Mathlib.Omega.{arith}
use lib.ListN.{replicate}
use Rattle.numbers.specs.Numbers.{total}
use Rattle.selection.specs.Plan.{Problem, plan_load, Fitting, fastest}
use Rattle.selection.proofs.Fastest.{some_fits_iff_fastest}
use Rattle.selection.specs.Same.{Same}
use Rattle.selection.proofs.Same.{fastest-load_same}
use Rattle.layout.specs.Words.{most_rates, most_tasks, slack}
use Rattle.layout.specs.declared.Layout.{Layout}
use Rattle.layout.proofs.Whole.{slack_in}
use Rattle.taskset.specs.Quantities.{hyper_limit, hyper_period, problem_of}
use Rattle.taskset.specs.Planning.{planning}
use Rattle.taskset.proofs.Sets.{falling}
use Rattle.engine.specs.Arrays.{option_at, load_bound, Small, arrays}
use Rattle.engine.specs.declared.Request.{Request}
use Rattle.checks.specs.Steps.{OfCounts}
use Rattle.options.specs.Options.{LaidBoth}
use Rattle.options.specs.Posed.{SetGiven, Poses}

module _ {layout : Layout} {m n : ℕ} {s : List ℕ} (o : OfCounts layout m n s) {l : ℕ} (given : SetGiven layout s l) where
  pub hyper_fits : l ≤ hyper_limit
  hyper_fits = omega (arith, given.hyper, given.set.hyper_range.1)

  rates_range : (2 ≤ m) × (m ≤ most_rates)
  rates_range = (
    omega (arith, o.counted, given.set.whole.rates_range.0),
    omega (arith, o.counted, given.set.whole.rates_range.1),
  )

  few : n ≤ most_tasks
  few = omega (arith, o.numbered, given.set.whole.tasks_range.1)

  module _ {loads energies : List ℕ} (put : LaidBoth layout s m n 1 loads energies) where
    -- What is asked at slack g, and the problem that the arrays then give, at any slack.
    abbrev request : ℕ → Request
    request g = record { tasks = n; rates = m; limit = l; slack = g }

    abbrev chosen_from : Problem
    chosen_from = arrays (request 0) loads energies

    -- The arrays give the set's own problem.
    same : Same chosen_from (problem_of layout s)
    same = record {
      count = o.numbered;
      rates = o.counted;
      limit = given.hyper;
      loads = put.loads.before;
      energies = put.energies.before;
    }

    pub sum_given : (n ≤ 32) × (m ≤ 8) × Small load_bound loads
    sum_given = (few, rates_range.1, put.loads.small)

    -- the load of the fastest plan, as it was summed
    module _ {f : ℕ} (f-is : f ≡ total (option_at loads) n (replicate n m)) where
      array-sum : f ≡ plan_load chosen_from (fastest chosen_from)
      unfolding fastest
      array-sum = f-is

      fastest_is : f ≡ plan_load (problem_of layout s) (fastest (problem_of layout s))
      fastest_is = array-sum ∙ fastest-load_same chosen_from (problem_of layout s) same (omega (arith, rates_range.0))

      fits_iff : ((P : List ℕ) × Fitting (problem_of layout s) P)
          ↔ (plan_load (problem_of layout s) (fastest (problem_of layout s)) ≤ hyper_period layout s)
      fits_iff =
          some_fits_iff_fastest (problem_of layout s) (omega (arith, given.set.whole.rates_range.0))
          (falling layout s given.set)

      -- Where the fastest plan does not fit, none does.
      pub none_fits : l < f → (P : List ℕ) → Fitting (problem_of layout s) P → ⊥
      none_fits h P fit = omega (arith, fits_iff.0 (P, fit), fastest_is, given.hyper)

      -- Where it does, a plan can be asked for.
      pub posed : f ≤ l → {g : ℕ} → g ≡ slack s → Poses (planning layout s) loads energies (request g)
      posed fits {g} g-is =
          let range = slack_in layout s given.set.whole in
          record {
            same = same;
            slack_is = g-is;
            asked = record {
              tasks = few;
              rates = (omega (arith, rates_range.0), rates_range.1);
              small = omega (arith, hyper_fits);
              slacks = (omega (arith, g-is, range.0), omega (arith, g-is, range.1));
              fits = omega (arith, array-sum);
            };
            loads_fit = put.loads.small;
            energies_fit = put.energies.small;
          }
