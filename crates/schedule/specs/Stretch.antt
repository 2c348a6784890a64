-- A stretch of ticks with no release after the first of them. Not part of what a reader must believe: proofs/Stretch.antt
-- shows that it is as many ticks of the walk.
use Rattle.std.specs.Prelude.{ℕ, zero, suc, ◌+◌, cond, not, ◌&&◌, List, ltb, eqb, length}
use Rattle.schedule.specs.Walk.{Job, pick, run}
use Rattle.schedule.specs.Counted.{count, left_at}

-- What a walk holds: its jobs, the counts, and the place of the job of the tick before where it is unfinished, else the
-- number of jobs.
pub record Going : Type 0 where
  pub jobs : List Job
  pub busy : ℕ
  pub idle : ℕ
  pub preempted : ℕ
  pub last : ℕ

-- 1 where the job at b runs and another, at last, is unfinished.
unfoldable pub cuts : ℕ → ℕ → ℕ → ℕ
cuts n b last = count (ltb b n && (ltb last n && not (eqb b last)))

-- b where its job is unfinished, else n.
abbrev pub stays : ℕ → List Job → ℕ → ℕ
stays n js b = cond (ltb 0 (left_at js b)) b n

-- One tick, after its releases: document 01's.
abbrev pub ticked : Going → Going
ticked g = record {
  jobs = run g.jobs;
  busy = g.busy + count (ltb (pick g.jobs) (length g.jobs));
  idle = g.idle + count (not (ltb (pick g.jobs) (length g.jobs)));
  preempted = g.preempted + cuts (length g.jobs) (pick g.jobs) g.last;
  last = stays (length g.jobs) (run g.jobs) (pick g.jobs);
}

-- So many ticks, with no release after the first of them.
abbrev pub ticks : ℕ → Going → Going
ticks zero g = g
ticks (suc m) g = ticks m (ticked g)
