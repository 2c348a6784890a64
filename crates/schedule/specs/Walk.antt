-- The endless walk (document 01, 'The walk'): earliest deadline first, tick by tick, with no last tick.
use Rattle.std.specs.Prelude.{ℕ, zero, suc, pred, ◌+◌, ◌-◌, ◌%◌, ◌≡◌, Bool, false, cond, not, ◌&&◌, ◌||◌, List, [], ◌∷◌, map, ltb, leb, eqb}

-- A task, as far as the walk goes: its period; its job time, the most ticks that a job of it takes, by which theorems
-- speak of its load; and for each tick the ticks of the job that it releases there, 0 where it releases none.
pub record Task : Type 0 where
  pub period : ℕ
  pub time : ℕ
  pub arrives : ℕ → ℕ

-- A task of the set: "At tick 0 each task's first job is released. At every later multiple of a task's period .. its
-- next job is released", each time with "the full job time".
abbrev pub periodic : ℕ → ℕ → Task
periodic p c = record { period = p; time = c; arrives = λ t. cond (eqb (t % p) 0) c 0 }

-- Document 02, note 6: "each task's first release falls at its A", here a, and "releases fall at A plus multiples of the
-- period".
abbrev pub offset : ℕ → ℕ → ℕ → Task
offset a p c = record { period = p; time = c; arrives = λ t. cond (leb a t && eqb ((t - a) % p) 0) c 0 }

-- The tasks k i, k (i + 1), and so on, n of them.
abbrev pub tasks_from : (ℕ → Task) → ℕ → ℕ → List Task
tasks_from k i zero = []
tasks_from k i (suc n) = k i ∷ tasks_from k (suc i) n

-- "It holds the ticks left of each task's job and that job's deadline."
pub record Job : Type 0 where
  pub task : Task
  pub left : ℕ
  pub due : ℕ

-- Before tick 0 a task has no job yet.
abbrev pub fresh : Task → Job
fresh k = record { task = k; left = 0; due = 0 }

-- "A release sets the ticks left to the full job time and the deadline to one period later": at tick t, of a job of e
-- ticks.
abbrev pub released : ℕ → Job → ℕ → Job
released t j zero = j
released t j (suc e) = record { task = j.task; left = suc e; due = t + j.task.period }

abbrev pub release : ℕ → Job → Job
release t j = released t j (j.task.arrives t)

-- An unfinished job of the list has a deadline before d.
abbrev pub sooner : ℕ → List Job → Bool
sooner d [] = false
sooner d (j ∷ js) = (ltb 0 j.left && ltb j.due d) || sooner d js

-- The place of "the unfinished job with the earliest deadline .., a tie going to the lower task number"; the number of
-- jobs where all are finished.
abbrev pub pick : List Job → ℕ
pick [] = zero
pick (j ∷ js) = cond (ltb 0 j.left && not (sooner j.due js)) zero (suc (pick js))

-- The job at a place "loses one tick"; "with none the tick is idle".
abbrev pub work : List Job → ℕ → List Job
work [] n = []
work (j ∷ js) zero = record { task = j.task; left = pred j.left; due = j.due } ∷ js
work (j ∷ js) (suc n) = j ∷ work js n

abbrev pub run : List Job → List Job
run js = work js (pick js)

-- The walk's state before the check and the releases of tick t.
abbrev pub before : List Task → ℕ → List Job
before ks zero = map fresh ks
before ks (suc t) = run (map (release t) (before ks t))

-- "that task's ticks left must be 0, otherwise the plan misses there": some task that releases a job at tick t has
-- ticks left.
abbrev pub late : ℕ → List Job → Bool
late t [] = false
late t (j ∷ js) = (ltb 0 (j.task.arrives t) && ltb 0 j.left) || late t js

abbrev pub misses : List Task → ℕ → Bool
misses ks t = late t (before ks t)

-- "A plan keeps every deadline for ever when it misses at no tick, however late."
abbrev pub KeepsForEver : List Task → Type 0
KeepsForEver ks = (t : ℕ) → misses ks t ≡ false
