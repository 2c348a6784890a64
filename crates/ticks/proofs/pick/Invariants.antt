-- The pick by a scan: what is left of it ends with the pick.
-- Assumes nothing.
use mathlib.Core.Path.{◌≡◌}
use Rattle.schedule.specs.Counted.{left_at}
use Rattle.ticks.specs.Arrays.{jobs_from, blank, picked}
use Rattle.ticks.proofs.Scan.{scanned}
use Rattle.ticks.proofs.pick.Given as goal

abbrev pub invariant-loop-i : goal.invariant-loop-i
invariant-loop-i l =
    (scanned l.left l.due l.n l.best.place l.when l.i ≡ picked l.left l.due l.n)
    × (l.best.left ≡ left_at (jobs_from blank l.left l.due 0 l.n) l.best.place)
