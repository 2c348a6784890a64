-- Some plan fits exactly when the plan with every task at rate M fits.
-- Assumes nothing.
use Prim.Native.Nat.{ℕ, ◌≤◌, ◌<◌}
use mathlib.Core.Path.{◌≡◌}
use mathlib.Core.List.{List}
use mathlib.Core.Logic.{◌↔◌}
use native.Mathlib.Omega.{arith}
use lib.ListN.{length-replicate, get_or, get_or-replicate}
use Rattle.numbers.proofs.Sums.{total_mono}
use Rattle.selection.specs.Plan.{Problem, plan_load, IsPlan, Fitting, fastest}

-- No task's load is higher at rate M than at another rate.
abbrev pub Falling : Problem → Type 0
Falling p = (t r : ℕ) → t < p.count → 1 ≤ r → r ≤ p.rates → p.load t p.rates ≤ p.load t r

module _ (p : Problem) (some_rate : 1 ≤ p.rates) where
  fastest_at : (t : ℕ) → t < p.count → get_or (fastest p) t 0 ≡ p.rates
  unfolding fastest
  fastest_at t l = get_or-replicate p.count t p.rates 0 l

  pub fastest_plan : IsPlan p (fastest p)
  unfolding fastest
  fastest_plan = record {
    size = length-replicate p.count p.rates;
    above = λ t l. omega (arith, fastest_at t l);
    below = λ t l. omega (arith, fastest_at t l);
  }

  pub fastest_fits : plan_load p (fastest p) ≤ p.limit → Fitting p (fastest p)
  fastest_fits h = record { plan = fastest_plan; fits = h }

  pub fastest_least : Falling p → (P : List ℕ) → IsPlan p P → plan_load p (fastest p) ≤ plan_load p P
  fastest_least falls P f =
      total_mono p.load p.load p.count (fastest p) P
      (λ t l. rw (fastest_at t l) (falls t (get_or P t 0) l (f.above t l) (f.below t l)))

  pub some_fits_iff_fastest : Falling p → ((P : List ℕ) × Fitting p P) ↔ (plan_load p (fastest p) ≤ p.limit)
  some_fits_iff_fastest falls = ((λ w. omega (arith, fastest_least falls w.0 w.1.plan, w.1.fits)), (λ h. (fastest p, fastest_fits h)))
