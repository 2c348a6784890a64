-- The walk with a last tick and its counts (document 01, 'The walk'). The last tick is a parameter: L for document 01's
-- call, and of document 02's note 6 "it goes to 2 × L" where some first release is above 0.
use Rattle.std.specs.Prelude.{ℕ, zero, suc, Bool, true, false, cond, not, ◌&&◌, List, [], ◌∷◌, map, ltb, eqb, length}
use Rattle.numbers.specs.Numbers.{over}
use Rattle.schedule.specs.Walk.{Task, Job, release, pick, before, misses}

-- "'missed', that tick and the task"; "'kept' and three counts: busy ticks, idle ticks, and preemptions".
pub data Outcome : Type 0 where
  missed : ℕ → ℕ → Outcome
  kept : ℕ → ℕ → ℕ → Outcome

-- The place of the job that runs in tick t; the number of tasks where the tick is idle.
abbrev pub ran : List Task → ℕ → ℕ
ran ks t = pick (map (release t) (before ks t))

abbrev pub count : Bool → ℕ
count true = 1
count false = 0

abbrev pub busy_at : List Task → ℕ → ℕ
busy_at ks t = count (ltb (ran ks t) (length ks))

abbrev pub idle_at : List Task → ℕ → ℕ
idle_at ks t = count (not (ltb (ran ks t) (length ks)))

-- The ticks left of the job at a place.
abbrev pub left_at : List Job → ℕ → ℕ
left_at [] n = 0
left_at (j ∷ js) zero = j.left
left_at (j ∷ js) (suc n) = left_at js n

-- "ticks in which a job runs while the job of the tick before is another and is unfinished". Unfinished is judged
-- before the releases of the tick: a job that ended in the tick before is not preempted, though its task may release
-- the next one now.
abbrev pub preempted_at : List Task → ℕ → ℕ
preempted_at ks zero = 0
preempted_at ks (suc t) =
    count (ltb (ran ks (suc t)) (length ks) &&
    (not (eqb (ran ks (suc t)) (ran ks t)) && ltb 0 (left_at (before ks (suc t)) (ran ks t))))

-- "the task, the lowest-numbered where several miss"; tasks are numbered from 1.
abbrev pub late_task : ℕ → List Job → ℕ
late_task t [] = 0
late_task t (j ∷ js) = cond (ltb 0 (j.task.arrives t) && ltb 0 j.left) 1 (suc (late_task t js))

-- The answer of a walk that misses at tick t, and of one that has missed nothing up to t.
abbrev pub missed_at : List Task → ℕ → Outcome
missed_at ks t = missed t (late_task t (before ks t))

abbrev pub kept_to : List Task → ℕ → Outcome
kept_to ks t = kept (over (busy_at ks) 0 t) (over (idle_at ks) 0 t) (over (preempted_at ks) 0 t)

-- From tick t with n ticks to go. At the last tick "the check is made and nothing is released".
abbrev pub walk_from : List Task → ℕ → ℕ → Outcome
walk_from ks t zero = cond (misses ks t) (missed_at ks t) (kept_to ks t)
walk_from ks t (suc n) = let r = walk_from ks (suc t) n in cond (misses ks t) (missed_at ks t) r

-- "goes tick by tick from 0 to" the last tick.
abbrev pub walk : List Task → ℕ → Outcome
walk ks last = walk_from ks 0 last

abbrev pub IsKept : Outcome → Type 0
IsKept (missed t i) = ⊥
IsKept (kept b i p) = Unit {0}
