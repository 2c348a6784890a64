-- The walk's state as arrays hold it, and what the walk's functions take and give. Not part of what a reader must
-- believe: the call's contract speaks of the walk's own definitions.
use Rattle.std.specs.Prelude.{ℕ, zero, suc, ◌+◌, ◌≤◌, ◌<◌, min, ◌≡◌, Bool, false, not, cond, ltb, eqb}
use Rattle.std.specs.Prelude.{Option, None, Some, unwrap_or, IfSome, List, [], ◌∷◌, length, get_or, replicate}
use Rattle.schedule.specs.Walk.{Task, offset, Job, pick, tasks_from}
use Rattle.schedule.specs.Counted.{kept, missed, walk}
use Rattle.schedule.specs.Stretch.{Going, ticks}
use Rattle.layout.specs.Words.{longest_period}
use Rattle.ticks.specs.declared.Picked.{Picked}
use Rattle.ticks.specs.declared.State.{State}
use Rattle.ticks.specs.declared.Timing.{Timing}
use Rattle.taskset.specs.declared.WalkEnd.{WalkEnd}
use Rattle.taskset.specs.declared.WalkEnd.TheVariants.{Kept, Missed}

-- The jobs of the n tasks from place i on, where k gives each place's task, by ticks left and deadlines.
abbrev pub jobs_from : (ℕ → Task) → List ℕ → List ℕ → ℕ → ℕ → List Job
jobs_from k left due i zero = []
jobs_from k left due i (suc n) = record { task = k i; left = get_or left i 0; due = get_or due i 0 } ∷ jobs_from k left due (suc i) n

-- The pick does not look at tasks.
abbrev pub blank : ℕ → Task
blank i = record { period = 0; time = 0; arrives = λ t. 0 }

-- The place that runs next, of n tasks; n where all are finished.
unfoldable pub picked : List ℕ → List ℕ → ℕ → ℕ
picked left due n = pick (jobs_from blank left due 0 n)

-- The job at the place that runs next, with its ticks left.
pub record IsJob (l d : List ℕ) (n : ℕ) (job : Picked) : Type 0 where
  pub place : job.place ≡ picked l d n
  pub inside : job.place < n
  pub left : job.left ≡ get_or l job.place 0
  pub some : 0 < job.left

-- What the pick gives: that job, or none where all are finished.
abbrev pub IsPick : (l d : List ℕ) (n : ℕ) → Option Picked → Type 0
IsPick l d n None = n ≤ picked l d n
IsPick l d n (Some job) = IsJob l d n job

-- Whether a job at `best` cuts the last one short, which is unfinished.
abbrev pub cuts_short : ℕ → Option ℕ → Bool
cuts_short best None = false
cuts_short best (Some at) = not (eqb best at)

-- Room in the arrays, and deadlines below the largest word.
pub record Early (n : ℕ) (left due : List ℕ) : Type 0 where
  pub few : n ≤ 32
  pub lefts : length left ≡ 32
  pub dues : length due ≡ 32
  pub low : (i : ℕ) → i < n → get_or due i 0 < 4294967295

-- The timing at a place: past the last one, of a task that releases nothing.
abbrev pub timing_at : List Timing → ℕ → Timing
timing_at ts i = get_or ts i (record { period = 0; time = 0; first = 0 })

-- Before tick 0.
pub record Begun (ts : List Timing) (r : State) : Type 0 where
  pub left : r.left ≡ replicate 32 0
  pub size : length r.due ≡ 32
  pub due : (i : ℕ) → i < length ts → get_or r.due i 0 ≡ (timing_at ts i).first
  pub busy : r.busy ≡ 0
  pub idle : r.idle ≡ 0
  pub preempted : r.preempted ≡ 0
  pub last : r.last ≡ None

-- The state as the laws of the schedule have it.
abbrev pub going : (ℕ → Task) → ℕ → State → Going
going k n s = record {
  jobs = jobs_from k s.left s.due 0 n;
  busy = s.busy;
  idle = s.idle;
  preempted = s.preempted;
  last = unwrap_or s.last n;
}

-- An unfinished job of the tick before is one of the n.
abbrev pub Inside : ℕ → State → Type 0
Inside n s = IfSome s.last (λ at. at < n)

-- A state of which `room` ticks can be made.
pub record TickReady (n room : ℕ) (s : State) : Type 0 where
  pub early : Early n s.left s.due
  pub inside : Inside n s
  pub some : 0 < room
  pub busy_room : s.busy + room < 4294967295
  pub idle_room : s.idle + room < 4294967295
  pub preempted_room : s.preempted + room < 4294967295

-- The ticks up to the job's finish or to the bound.
abbrev pub ticks_made : ℕ → ℕ → State → ℕ
ticks_made n room s =
    let b = picked s.left s.due n in
    cond (ltb b n) (min (get_or s.left b 0) room) room

-- That many were made, whoever's the jobs are. With a bound of 1 it is document 01's tick.
pub record Ticked (n room : ℕ) (s : State) (made : ℕ) (r : State) : Type 0 where
  pub is : made ≡ ticks_made n room s
  pub some : 0 < made
  pub within : made ≤ room
  pub goes : (k : ℕ → Task) → going k n r ≡ ticks made (going k n s)
  pub size : length r.left ≡ length s.left
  pub due : r.due ≡ s.due
  pub inside : Inside n r

-- What the loop over ticks asks: tasks by their periods, job times and first releases, and a last tick.
pub record RunReady (ts : List Timing) (end : ℕ) : Type 0 where
  pub few : length ts ≤ 32
  pub period : (i : ℕ) → i < length ts → (0 < (timing_at ts i).period) × ((timing_at ts i).period ≤ longest_period)
  pub time : (i : ℕ) → i < length ts → 0 < (timing_at ts i).time
  pub first : (i : ℕ) → i < length ts → (timing_at ts i).first ≤ longest_period
  pub ends : end ≤ 200000000

-- The task at a place.
abbrev pub task_at : List Timing → ℕ → Task
task_at ts i = offset (timing_at ts i).first (timing_at ts i).period (timing_at ts i).time

-- The answer is the definition's walk of these tasks, to the tick end.
abbrev pub Says : List Timing → ℕ → WalkEnd → Type 0
Says ts end (Kept busy idle preempted) = walk (tasks_from (task_at ts) 0 (length ts)) end ≡ kept busy idle preempted
Says ts end (Missed tick task) = walk (tasks_from (task_at ts) 0 (length ts)) end ≡ missed tick task
