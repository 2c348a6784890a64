-- What a list that passes checks 2, 3 and 4 is: a set, with every fact that its users want; and 'fits' means 'keeps
-- every deadline for ever'.
-- Assumes nothing.
use Prim.Native.Nat.{ℕ, zero, suc, ◌+◌, ◌-◌, ◌*◌, ◌/◌, ◌≤◌, ◌<◌, ◌∣◌}
use mathlib.Core.Path.{◌≡◌, refl, sym, ap, ◌∙◌}
use mathlib.Core.List.{List}
use mathlib.Core.Logic.{◌↔◌, ⊎_elim}
use native.Mathlib.Nat.{mul-le-mul, mul-le-mul_left, div-le_self, le_of_dvd, mod-eq-zero_of_dvd}
use native.Mathlib.Omega.{arith}
use lib.ListN.{get_or}
use Rattle.numbers.specs.Numbers.{All, total, running}
use Rattle.numbers.proofs.Tests.{lt_or_le}
use Rattle.numbers.proofs.Rounding.{ceil_falls, ceil_positive, ceil_small}
use Rattle.numbers.proofs.Sums.{sum, total_bound, total-over}
use Rattle.numbers.proofs.Multiples.{running_positive, running_divides, running_least}
use Rattle.schedule.specs.Walk.{KeepsForEver, periodic}
use Rattle.schedule.proofs.Demand.{load}
use Rattle.schedule.proofs.ByPlace.{sum_places}
use Rattle.schedule.proofs.Periodic.{Regular, keeps_iff_fits, tasks_regular}
use Rattle.selection.specs.Plan.{IsPlan, plan_load}
use Rattle.selection.proofs.Fastest.{Falling}
use Rattle.layout.specs.Words.{most_idle, longest_job, head_size, word, idle, rate_count, task_count, rate_place, rate, period, cycles, energy}
use Rattle.taskset.specs.Quantities.{hyper_limit, job_ticks, job_time, job_energy, hyper_period, task_load, task_energy, net_energy, task_net}
use Rattle.taskset.specs.Quantities.{problem_of, endless_tasks}
use Rattle.taskset.specs.Sets.{IsSet, most_task_load, most_task_energy, most_reported}
use Rattle.taskset.specs.Refusals.{RateFault, PassesLimit, Passes, Accepts, ◌▹◌, word_check, rate_check, word_checks, hyper_check}
use Rattle.taskset.proofs.Checks.{accepts_next, no_word_fault, no_rate_fault, none_passes}
use Rattle.layout.specs.Whole.{IsWhole}
use Rattle.layout.proofs.Whole.{whole_of, whole_iff, idle_in_lem}
use Rattle.layout.specs.declared.Layout.{Layout}

-- At a rate number, which counts from 1, there is a job, with its time and its energy.
pub job_time_at : (layout : Layout) (s : List ℕ) (t r : ℕ) → 1 ≤ r → job_time layout s t r ≡ job_ticks (cycles layout s t) (rate layout s r)
job_time_at layout s t zero h = absurd (omega arith)
job_time_at layout s t (suc r) h = refl

pub job_energy_at : (layout : Layout) (s : List ℕ) (t r : ℕ) → 1 ≤ r → job_energy layout s t r ≡ energy layout s t r
job_energy_at layout s t zero h = absurd (omega arith)
job_energy_at layout s t (suc r) h = refl

module _ (layout : Layout) (s : List ℕ) where
  ascends : ((q : ℕ) → RateFault layout s q → ⊥) → (r : ℕ) → 1 ≤ r → r < rate_count layout s → rate layout s r < rate layout s (suc r)
  ascends none r a b =
      ⊎_elim
      (λ (h : rate layout s r < rate layout s (suc r)). h)
      (λ (h : rate layout s (suc r) ≤ rate layout s r).
      let e : rate_place layout (suc r) - 1 ≡ rate_place layout r = omega arith in
      absurd (none (rate_place layout (suc r)) (omega arith, omega arith, rw e h)))
      (lt_or_le (rate layout s r) (rate layout s (suc r)))

  within : IsWhole layout s → ((t : ℕ) → PassesLimit layout s t → ⊥) → hyper_period layout s ≤ hyper_limit
  within w none =
      let e : suc (task_count layout s - 1) ≡ task_count layout s = omega (arith, w.tasks_range.0) in
      ⊎_elim
      (λ (h : hyper_limit < hyper_period layout s). absurd (none (task_count layout s - 1) (omega (arith, w.tasks_range.0), rw e h)))
      (λ (h : hyper_period layout s ≤ hyper_limit). h)
      (lt_or_le hyper_limit (hyper_period layout s))

  -- From the three checks, among whatever others a call makes.
  pub set_of : Passes (word_check layout s) → Passes (rate_check layout s) → Passes (hyper_check layout s) → IsSet layout s
  set_of words rates hyper =
      let w = whole_of layout s (no_word_fault layout s words) in
      record {
        whole = w;
        ascending = ascends (no_rate_fault layout s rates);
        hyper_range = (
          running_positive (period layout s) (task_count layout s) (λ t l. (w.period_range t l).0) (task_count layout s) (omega arith),
          within w (none_passes layout s hyper),
        );
        divides = λ t l. running_divides (period layout s) (task_count layout s) t l;
        least = λ c all. running_least (period layout s) (task_count layout s) (λ t l. (w.period_range t l).0) (task_count layout s) c (omega arith) all;
      }

  -- And back: who builds a list shows that it passes checks 2 and 3 from the facts of its words.
  module _ (w : IsWhole layout s) (up : (r : ℕ) → 1 ≤ r → r < rate_count layout s → rate layout s r < rate layout s (suc r)) where
    no_fall : (q : ℕ) → RateFault layout s q → ⊥
    no_fall q f =
        let r : ℕ = q - head_size layout in
        let here : rate_place layout r ≡ q = omega (arith, f.0) in
        let before : rate_place layout (r - 1) ≡ q - 1 = omega (arith, f.0) in
        let next : suc (r - 1) ≡ r = omega (arith, f.0) in
        let rises : rate layout s (r - 1) < rate layout s r = rw next at (up (r - 1) (omega (arith, f.0)) (omega (arith, f.0, f.1))) in
        let high : rate layout s r ≡ word s q = ap (word s) here in
        let low : rate layout s (r - 1) ≡ word s (q - 1) = ap (word s) before in
        omega (arith, f.2)

    pub words_pass : Accepts (word_checks layout s)
    words_pass = ((λ q h. (whole_iff layout s).0 w q h.here), ((λ q h. no_fall q h.here), tt))

    -- And check 4, where c is a common multiple of its periods, and within the limit.
    module _ (c : ℕ) (some : 0 < c) (few : c ≤ hyper_limit) (multiple : (t : ℕ) → t < task_count layout s → period layout s t ∣ c) where
      divides_multiple : (t : ℕ) → t ≤ task_count layout s → running (period layout s) t ∣ c
      divides_multiple t h =
          running_least (period layout s) (task_count layout s) (λ t l. (w.period_range t l).0) t c h (λ i l. multiple i (omega arith))

      pub hyper_divides : hyper_period layout s ∣ c
      hyper_divides = divides_multiple (task_count layout s) (omega arith)

      pub set_passes : Accepts (word_checks layout s ▹ hyper_check layout s)
      set_passes =
          accepts_next (word_checks layout s) (hyper_check layout s) words_pass
          (λ q h. let f = h.1.here in omega (arith, f.1, le_of_dvd some (divides_multiple (suc h.0) (omega (arith, f.0)))))

  module _ (set : IsSet layout s) where
    -- No rate is above the last.
    rates_up : (n r : ℕ) → r + n ≡ rate_count layout s → 1 ≤ r → rate layout s r ≤ rate layout s (rate_count layout s)
    rates_up zero r e a = let q : r ≡ rate_count layout s = omega arith in rw q (omega arith)
    rates_up (suc n) r e a = omega (arith, set.ascending r a (omega arith), rates_up n (suc r) (omega arith) (omega arith))

    -- So no load is higher at the last rate than at another.
    pub falling : Falling (problem_of layout s)
    falling t r l a b =
        mul-le-mul_left _
        (rw (job_time_at layout s t (rate_count layout s) (omega arith), job_time_at layout s t r a)
        (ceil_falls _ (rate layout s r) (rate layout s (rate_count layout s)) (set.whole.rate_range r a b).0
        (rates_up (rate_count layout s - r) r (omega arith) a)))

    -- Every job takes at least one tick.
    pub job_time_positive : (t r : ℕ) → t < task_count layout s → 1 ≤ r → r ≤ rate_count layout s → 1 ≤ job_time layout s t r
    job_time_positive t r l a b =
        rw (job_time_at layout s t r a) (ceil_positive _ _ (set.whole.cycles_range t l).0 (set.whole.rate_range r a b).0)

    -- What a task's loads and energies come to at most.
    jobs_few : (t : ℕ) → hyper_period layout s / period layout s t ≤ hyper_limit
    jobs_few t = omega (arith, div-le_self (hyper_period layout s) (period layout s t), set.hyper_range.1)

    pub task-load_small : (t r : ℕ) → t < task_count layout s → 1 ≤ r → r ≤ rate_count layout s
        → task_load layout s t r ≤ most_task_load
    task-load_small t r l a b =
        let time : job_time layout s t r ≤ longest_job
        = omega (
          arith,
          job_time_at layout s t r a,
          ceil_small (cycles layout s t) (rate layout s r) (set.whole.rate_range r a b).0,
          (set.whole.cycles_range t l).1,
        ) in
        omega (arith, mul-le-mul (jobs_few t) time)

    task-energy_small : (t r : ℕ) → t < task_count layout s → 1 ≤ r → r ≤ rate_count layout s → task_energy layout s t r ≤ most_task_energy
    task-energy_small t r l a b =
        rw (job_energy_at layout s t r a) (omega (arith, mul-le-mul (jobs_few t) (set.whole.energy_range t r l a b).1))

    pub task_net_small : (t r : ℕ) → t < task_count layout s → 1 ≤ r → r ≤ rate_count layout s
        → task_net layout s t r ≤ most_task_energy
    task_net_small t r l a b =
        let less : net_energy layout s t r ≤ job_energy layout s t r = omega arith in
        omega (arith, task-energy_small t r l a b, mul-le-mul_left (hyper_period layout s / period layout s t) less)

    -- What is reported of a plan, with the energy of so many idle ticks.
    pub energy_small : (P : List ℕ) → IsPlan (problem_of layout s) P → (free : ℕ) → free ≤ hyper_period layout s
        → total (task_energy layout s) (task_count layout s) P + idle s * free
        ≤ most_reported
    energy_small P p free few =
        omega (
          arith,
          total_bound (task_energy layout s) most_task_energy (task_count layout s) P
              (λ t l. task-energy_small t (get_or P t 0) l (p.above t l) (p.below t l)),
          set.whole.tasks_range.1,
          mul-le-mul {n₁ = idle s} {m₁ = free} {n₂ = most_idle} {m₂ = hyper_limit} (idle_in_lem layout s set.whole)
              (omega (arith, set.hyper_range.1)),
        )

    -- The walk's tasks under a list of rate numbers.
    pub regular : (P : List ℕ) → All (Regular (hyper_period layout s)) (endless_tasks layout s P)
    regular P =
        tasks_regular (hyper_period layout s) (period layout s) (λ t. job_time layout s t (get_or P t 0)) 0 (task_count layout s)
        (λ t a b. ((set.whole.period_range t (omega arith)).0, mod-eq-zero_of_dvd (period layout s t) (set.divides t (omega arith))))

    pub walk-load : (P : List ℕ) → sum (load (hyper_period layout s)) (endless_tasks layout s P) ≡ plan_load (problem_of layout s) P
    walk-load P =
        sum_places (load (hyper_period layout s)) (λ t. periodic (period layout s t) (job_time layout s t (get_or P t 0))) 0
        (task_count layout s) ∙
        sym (total-over (task_load layout s) (task_count layout s) P)

    pub keeps_iff_load : (P : List ℕ) → KeepsForEver (endless_tasks layout s P) ↔ (plan_load (problem_of layout s) P ≤ hyper_period layout s)
    keeps_iff_load P =
        let iff = keeps_iff_fits (hyper_period layout s) (endless_tasks layout s P) set.hyper_range.0 (regular P) in
        ((λ k. omega (arith, iff.0 k, walk-load P)), (λ f. iff.1 (omega (arith, walk-load P))))
