-- What a set and a plan come to (document 01, 'A task set' and 'Which plan'; document 02, notes 4 and 6): job times,
-- hyper-period, loads, energies, working words; the set as a problem of selection, and with a plan as the walk's tasks.
use Rattle.std.specs.Prelude.{ℕ, zero, suc, ◌+◌, ◌-◌, ◌*◌, ◌/◌, Bool, true, cond, ◌&&◌, List, eqb, get_or}
use Rattle.numbers.specs.Numbers.{ceil, total, running}
use Rattle.schedule.specs.Walk.{Task, periodic, offset, tasks_from}
use Rattle.selection.specs.Plan.{Problem, plan_load, work_words}
use Rattle.layout.specs.Words.{slack, idle, rate_count, task_count, rate, period, cycles, first, energy}
use Rattle.layout.specs.declared.Layout.{Layout}

-- "Hyper-period L: .. at most 10,000,000."
abbrev pub hyper_limit : ℕ
hyper_limit = 10000000

-- What follows for a host that works with a plan's numbers: no reported energy reaches 2 ^ energy_bits, no unit is
-- above it, and no margin (document 02, note 5), less than a unit for each of at most 32 tasks, reaches
-- 2 ^ margin_bits.
abbrev pub energy_bits : ℕ
energy_bits = 49

abbrev pub margin_bits : ℕ
margin_bits = energy_bits + 5

-- "Job time at rate f: c / f rounded up to whole ticks": of a job of so many cycles.
abbrev pub job_ticks : ℕ → ℕ → ℕ
job_ticks c f = ceil c f

-- "all are 0": the first n of f 0, f 1, and so on.
abbrev pub all_zero : (ℕ → ℕ) → ℕ → Bool
all_zero f zero = true
all_zero f (suc n) = all_zero f n && eqb (f n) 0

module _ (layout : Layout) (s : List ℕ) where
  -- The job time and "the energy per job" of the task at t at rate number r. "Tasks and rates are numbered from 1": rate
  -- number 0 is no job, so that its time and its energy are 0.
  abbrev pub job_time : ℕ → ℕ → ℕ
  job_time t zero = 0
  job_time t (suc r) = job_ticks (cycles layout s t) (rate layout s (suc r))

  abbrev pub job_energy : ℕ → ℕ → ℕ
  job_energy t zero = 0
  job_energy t (suc r) = energy layout s t (suc r)

  -- "Hyper-period L: the least common multiple of the periods"
  abbrev pub hyper_period : ℕ
  hyper_period = running (period layout s) (task_count layout s)

  -- "Task load at a rate: (L / p) times the job time. Task energy at a rate: (L / p) times the energy per job."
  abbrev pub task_load : ℕ → ℕ → ℕ
  task_load t r = hyper_period / period layout s t * job_time t r

  abbrev pub task_energy : ℕ → ℕ → ℕ
  task_energy t r = hyper_period / period layout s t * job_energy t r

  -- "the energy per job less H × job time": of the task at t at rate number r, and of all its jobs in a hyper-period.
  abbrev pub net_energy : ℕ → ℕ → ℕ
  net_energy t r = job_energy t r - idle s * job_time t r

  abbrev pub task_net : ℕ → ℕ → ℕ
  task_net t r = hyper_period / period layout s t * net_energy t r

  -- The set as selection sees it: "Units, rounding and selection now use the energy per job less H × job time."
  abbrev pub problem_of : Problem
  problem_of = record { count = task_count layout s; rates = rate_count layout s; limit = hyper_period; load = task_load; energy = task_net }

  -- The tasks of the endless walk: each released at 0 and at every multiple of its period, with its job time at the
  -- rate that the plan gives it.
  abbrev pub endless_tasks : List ℕ → List Task
  endless_tasks P = tasks_from (λ t. periodic (period layout s t) (job_time t (get_or P t 0))) 0 (task_count layout s)

  -- The same where "each task's first release falls at its A": a t for the task at t.
  abbrev pub tasks_with : (ℕ → ℕ) → List ℕ → List Task
  tasks_with a P = tasks_from (λ t. offset (a t) (period layout s t) (job_time t (get_or P t 0))) 0 (task_count layout s)

  -- The tasks of the walk's call, and its last tick. "The walk takes A: releases fall at A plus multiples of the period,
  -- and it goes to 2 × L. .. If all are 0 it ends at L as before."
  abbrev pub walk_tasks : List ℕ → List Task
  walk_tasks P = tasks_with (first layout s) P

  abbrev pub last_tick : ℕ
  last_tick = cond (all_zero (first layout s) (task_count layout s)) hyper_period (2 * hyper_period)

  -- "the plan's task energies": the sum of them, as document 01 has a plan's energy.
  abbrev pub jobs_energy : List ℕ → ℕ
  jobs_energy P = total task_energy (task_count layout s) P

  -- The energy of a plan that a call returns and demand 3 compares: "The reported energy is the plan's task energies plus
  -- H × (L - load), and the 1000 + slack comparison is made between such totals."
  abbrev pub reported_energy : List ℕ → ℕ
  reported_energy P = jobs_energy P + idle s * (hyper_period - plan_load problem_of P)

  -- "Working words needed: W"
  abbrev pub work_needed : ℕ
  work_needed = work_words (task_count layout s) (slack s)
