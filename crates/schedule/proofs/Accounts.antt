-- ACCOUNTS of walks, worked examples: document 01's marked walks of the set S, over the periods and job times of its
-- tasks, and others.
-- Assumes nothing.
use Rattle.std.specs.Prelude.{◌≡◌, ◌∷◌, [], refl}
use Rattle.schedule.specs.Walk.{periodic, offset}
use Rattle.schedule.specs.Counted.{walk, missed, kept}

-- Plan 1 1: job times 6 and 10. "missed, tick 15, task 2."
pub walk_of_1_1 : walk (periodic 10 6 ∷ periodic 15 10 ∷ []) 30 ≡ missed 15 2
walk_of_1_1 = refl

-- Plan 2 1: job times 3 and 10. "kept, 29, 1, 1."
pub walk_of_2_1 : walk (periodic 10 3 ∷ periodic 15 10 ∷ []) 30 ≡ kept 29 1 1
walk_of_2_1 = refl

-- Two tasks late at one tick: the lower number is given.
pub lowest_late : walk (periodic 4 4 ∷ periodic 6 3 ∷ periodic 6 3 ∷ []) 12 ≡ missed 6 2
lowest_late = refl

-- A load of exactly L is kept, with no idle tick.
pub full_load : walk (periodic 2 1 ∷ periodic 4 2 ∷ []) 4 ≡ kept 4 0 1
full_load = refl

-- First releases, to 2 × L. Periods 2 and 4, job times 1 and 2, first releases 1 and 1: task 1 preempts task 2 in ticks
-- 3 and 7. In tick 5 it does not: task 2's job ended in tick 4, though tick 5 releases the next.
pub asked_before_releases : walk (offset 1 2 1 ∷ offset 1 4 2 ∷ []) 8 ≡ kept 7 1 2
asked_before_releases = refl

-- Periods 2 and 2, job times 1 and 2, first releases 0 and 1: 'kept' though the load of 3 is above L = 2, as an
-- "unfinished job whose deadline lies past it is no miss".
pub kept_over_load : walk (offset 0 2 1 ∷ offset 1 2 2 ∷ []) 4 ≡ kept 4 0 0
kept_over_load = refl

-- One period on it misses: task 2's second job, of tick 3, is due at 5.
pub missed_later : walk (offset 0 2 1 ∷ offset 1 2 2 ∷ []) 6 ≡ missed 5 2
missed_later = refl

-- A job is due one period after its own release: task 2's of tick 2 at 6, as task 1's, and not at 4, so that it waits.
pub due_from_release : walk (offset 0 6 3 ∷ offset 2 4 1 ∷ []) 24 ≡ kept 18 6 0
due_from_release = refl
