-- What a list that passes checks 2, 3 and 4 is, with every fact that its users want; how large what comes of it can be;
-- and what check 10 asks of its energies. Not part of what a reader must believe: proofs/Sets.antt and proofs/Idle.antt
-- show that a list which passes the checks is so.
use Rattle.std.specs.Prelude.{ℕ, suc, ◌+◌, ◌*◌, ◌≤◌, ◌<◌, List}
use Rattle.std.specs.Int.{◌∣◌}
use Rattle.layout.specs.Words.{most_tasks, most_idle, longest_job, most_energy}
use Rattle.layout.specs.Words.{idle, rate_count, task_count, rate, period, energy}
use Rattle.layout.specs.Whole.{IsWhole}
use Rattle.layout.specs.declared.Layout.{Layout}
use Rattle.taskset.specs.Quantities.{hyper_limit, job_time, hyper_period}

pub record IsSet (layout : Layout) (s : List ℕ) : Type 0 where
  pub whole : IsWhole layout s
  pub ascending : (r : ℕ) → 1 ≤ r → r < rate_count layout s → rate layout s r < rate layout s (suc r)
  pub hyper_range : (1 ≤ hyper_period layout s) × (hyper_period layout s ≤ hyper_limit)
  pub divides : (t : ℕ) → t < task_count layout s → period layout s t ∣ hyper_period layout s
  pub least : (c : ℕ) → ((t : ℕ) → t < task_count layout s → period layout s t ∣ c) → hyper_period layout s ∣ c

-- At most as many jobs as the hyper-period has ticks, none longer in ticks than in cycles: the most that a task's load
-- and its energy can be; and that of all tasks' energies with the idle energy of every tick, the most that is reported.
abbrev pub most_task_load : ℕ
most_task_load = hyper_limit * longest_job

abbrev pub most_task_energy : ℕ
most_task_energy = hyper_limit * most_energy

abbrev pub most_reported : ℕ
most_reported = most_tasks * most_task_energy + most_idle * hyper_limit

-- Every energy is at least what idle ticks draw in the job's time.
abbrev pub Covered : Layout → List ℕ → Type 0
Covered layout s = (t r : ℕ) → t < task_count layout s → 1 ≤ r → r ≤ rate_count layout s → idle s * job_time layout s t r ≤ energy layout s t r

-- The energy of the task at t at rate number r is below that.
abbrev pub Below : Layout → List ℕ → ℕ → ℕ → Type 0
Below layout s t r = energy layout s t r < idle s * job_time layout s t r
