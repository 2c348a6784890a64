-- Idle energy (document 02, note 4): what check 10 says of a list, which energy is the first below H × job time, and that
-- the energy reported of a plan is the one that selection goes by, and H for every tick of the hyper-period.
-- Assumes nothing.
use Prim.Native.Nat.{ℕ, zero, suc, ◌+◌, ◌-◌, ◌*◌, ◌/◌, ◌≤◌, ◌<◌}
use mathlib.Core.Path.{◌≡◌, refl, sym, ap, ◌∙◌}
use mathlib.Core.List.{List}
use mathlib.Core.Logic.{◌⊎◌, inl, inr, ⊎_elim}
use native.Mathlib.Nat.{mul_comm, mul-suc, mul-le-mul_right, mul-add, mul_assoc}
use native.Mathlib.Omega.{arith}
use lib.ListN.{get_or}
use Rattle.numbers.specs.Numbers.{total}
use Rattle.numbers.proofs.Tests.{lt_or_le}
use Rattle.numbers.proofs.Sums.{total_shared}
use Rattle.selection.specs.Plan.{IsPlan, plan_load, plan_energy}
use Rattle.layout.specs.Words.{idle, rate_count, task_count, task_size, energy_place, period, energy}
use Rattle.layout.specs.declared.Layout.{Layout}
use Rattle.taskset.specs.Quantities.{job_time, job_energy, hyper_period, task_load, task_energy, net_energy, task_net, problem_of}
use Rattle.taskset.specs.Quantities.{jobs_energy, reported_energy}
use Rattle.taskset.specs.Sets.{Covered, Below}
use Rattle.taskset.specs.Refusals.{IsBelowIdle, Passes, idle_check}
use Rattle.taskset.proofs.Checks.{no_energy_fault}

-- ---- check 10
module _ (layout : Layout) (s : List ℕ) where
  pub covered_of_lem : Passes (idle_check layout s) → Covered layout s
  covered_of_lem pass t r l a b =
      ⊎_elim
      (λ (h : energy layout s t r < idle s * job_time layout s t r).
      absurd (no_energy_fault layout s pass (energy_place layout (rate_count layout s) t r)
      (record { task = t; is_task = l; rate = r; from_1 = a; to_m = b; place = refl; below = omega arith })))
      (λ (h : idle s * job_time layout s t r ≤ energy layout s t r). h)
      (lt_or_le (energy layout s t r) (idle s * job_time layout s t r))

  pub covered_passes : Covered layout s → Passes (idle_check layout s)
  covered_passes c q h =
      let f = h.here in
      omega (arith, f.below, c f.task f.rate f.is_task f.from_1 f.to_m)

  -- Where idle ticks draw nothing, so it is.
  pub nothing-covered : idle s ≡ 0 → Covered layout s
  nothing-covered z t r l a b = rw z (omega arith)

  -- Of two energies the one with the lower place is of an earlier task, or of the same at a lower rate number.
  earlier : (t r u q : ℕ) → r ≤ rate_count layout s → q ≤ rate_count layout s
      → energy_place layout (rate_count layout s) u q < energy_place layout (rate_count layout s) t r → (u < t) ⊎ ((u ≡ t) × (q < r))
  earlier t r u q a b h =
      ⊎_elim
      (λ (l : u < t). inl l)
      (λ (l : t ≤ u).
      ⊎_elim
      (λ (m : t < u).
      absurd (omega (
        arith,
        mul-le-mul_right (task_size layout (rate_count layout s)) m,
        mul_comm (suc t) (task_size layout (rate_count layout s)),
        mul-suc (task_size layout (rate_count layout s)) t,
        mul_comm (task_size layout (rate_count layout s)) t,
      )))
      (λ (m : u ≤ t).
      let same : u ≡ t = omega arith in
      let place : u * task_size layout (rate_count layout s) ≡ t * task_size layout (rate_count layout s) = ap (λ (x : ℕ). x * task_size layout (rate_count layout s)) same in
      inr (same, omega arith))
      (lt_or_le t u))
      (lt_or_le u t)

  -- The first energy that is below: at the first task that has one, the first of that task's.
  pub first_below : (t r : ℕ) → t < task_count layout s → 1 ≤ r → r ≤ rate_count layout s → Below layout s t r
      → ((u : ℕ) → u < t → (q : ℕ) → 1 ≤ q → q ≤ rate_count layout s → Below layout s u q → ⊥)
      → ((q : ℕ) → 1 ≤ q → q < r → Below layout s t q → ⊥)
      → IsBelowIdle layout s (energy_place layout (rate_count layout s) t r)
  first_below t r l a b h tasks rates = record {
    here = record { task = t; is_task = l; rate = r; from_1 = a; to_m = b; place = refl; below = h };
    before = λ j m f.
        ⊎_elim
        (λ (x : f.task < t). tasks f.task x f.rate f.from_1 f.to_m f.below)
        (λ (x : (f.task ≡ t) × (f.rate < r)). rates f.rate f.from_1 x.1 (rw (← x.0) f.below))
        (earlier t r f.task f.rate b f.to_m (omega (arith, f.place)));
  }

-- ---- the two energies of a plan
-- What is left of an energy e when h has been drawn in each of x ticks, and that again, for as many jobs as j.
whole_energy : (j e h x : ℕ) → h * x ≤ e → j * e ≡ j * (e - h * x) + h * (j * x)
whole_energy j e h x fits =
    let parts : (e - h * x) + h * x ≡ e = omega arith in
    sym (ap (λ (y : ℕ). j * y) parts) ∙ mul-add j (e - h * x) (h * x) ∙
    ap (λ (y : ℕ). j * (e - h * x) + y) (sym (mul_assoc j h x) ∙ ap (λ (y : ℕ). y * x) (mul_comm j h) ∙ mul_assoc h j x)

module _ (layout : Layout) (s : List ℕ) (covered : Covered layout s) where
  task-energy_is : (t r : ℕ) → t < task_count layout s → 1 ≤ r → r ≤ rate_count layout s
      → task_energy layout s t r ≡ task_net layout s t r + idle s * task_load layout s t r
  task-energy_is t zero l a b = absurd (omega arith)
  task-energy_is t (suc r) l a b =
      whole_energy (hyper_period layout s / period layout s t) (energy layout s t (suc r)) (idle s)
      (job_time layout s t (suc r)) (covered t (suc r) l a b)

  pub energies_are : (P : List ℕ) → ((t : ℕ) → t < task_count layout s → 1 ≤ get_or P t 0) → ((t : ℕ) → t < task_count layout s → get_or P t 0 ≤ rate_count layout s)
      → total (task_energy layout s) (task_count layout s) P
      ≡ total (task_net layout s) (task_count layout s) P + idle s * total (task_load layout s) (task_count layout s) P
  energies_are P above below =
      total_shared (task_energy layout s) (task_net layout s) (task_load layout s) (idle s) (task_count layout s) P
      (λ t l. task-energy_is t (get_or P t 0) l (above t l) (below t l))

  -- THE TWO ARE ONE BUT FOR A CONSTANT: of a list that passes 10, the energy reported of every plan that fits is the
  -- energy that selection goes by and H × L.
  pub reported_is : (P : List ℕ) → IsPlan (problem_of layout s) P → plan_load (problem_of layout s) P ≤ hyper_period layout s
      → reported_energy layout s P ≡ plan_energy (problem_of layout s) P + idle s * hyper_period layout s
  reported_is P plan fits =
      let load : ℕ = plan_load (problem_of layout s) P in
      let free : load + (hyper_period layout s - load) ≡ hyper_period layout s = omega arith in
      omega (
        arith,
        energies_are P plan.above plan.below,
        ap (λ (x : ℕ). idle s * x) free,
        mul-add (idle s) load (hyper_period layout s - load),
      )

-- Where idle ticks draw nothing, both are document 01's own: the energy per job, and the sum of the task energies.
module _ (layout : Layout) (s : List ℕ) (nothing : idle s ≡ 0) where
  pub net_without : (t r : ℕ) → net_energy layout s t r ≡ job_energy layout s t r
  net_without t r = rw nothing (omega arith)

  pub reported_without : (P : List ℕ) → reported_energy layout s P ≡ jobs_energy layout s P
  reported_without P = rw nothing (omega arith)
