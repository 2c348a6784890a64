-- What the functions below the walk's call take and give. Not part of what a reader must believe.
use Rattle.std.specs.Prelude.{ℕ, ◌≤◌, ◌<◌, ◌≡◌, Result, Ok, Err, List, length, get_or}
use Rattle.layout.specs.Words.{most_tasks, rate_count, task_count, period, first}
use Rattle.layout.specs.declared.Layout.TheVariants.{Ordinary}
use Rattle.taskset.specs.Quantities.{job_time}
use Rattle.taskset.specs.Refusals.{IsBadPlan}
use Rattle.taskset.specs.Sets.{IsSet}
use Rattle.ticks.specs.Arrays.{timing_at}
use Rattle.ticks.specs.declared.Timing.{Timing}

-- Check 8.
abbrev pub PlanAnswers : ℕ → ℕ → List ℕ → Result (Unit {0}) ℕ → Type 0
PlanAnswers m n P (Err k) = IsBadPlan m n P k
PlanAnswers m n P (Ok x) = (k : ℕ) → IsBadPlan m n P k → ⊥

-- A set of m rates and n tasks; a plan that passes check 8.
pub record SetGiven (m n : ℕ) (s : List ℕ) : Type 0 where
  pub set : IsSet Ordinary s
  pub rates : m ≡ rate_count Ordinary s
  pub tasks : n ≡ task_count Ordinary s
  pub few : n ≤ most_tasks

pub record SoundPlan (m n : ℕ) (P : List ℕ) : Type 0 where
  pub size : length P ≡ n
  pub above : (t : ℕ) → t < n → 1 ≤ get_or P t 0
  pub below : (t : ℕ) → t < n → get_or P t 0 ≤ m

-- The timing of the task at t under plan P.
abbrev pub timing_of : List ℕ → List ℕ → ℕ → Timing
timing_of s P t = record { period = period Ordinary s t; time = job_time Ordinary s t (get_or P t 0); first = first Ordinary s t }

-- An array of 32 timings that holds those of the first n tasks.
pub record Holds (s P : List ℕ) (n : ℕ) (r : List Timing) : Type 0 where
  pub size : length r ≡ 32
  pub at : (t : ℕ) → t < n → timing_at r t ≡ timing_of s P t
