-- Where nothing is missed before tick t, all that was released before t has run or is left.
-- Assumes nothing.
use Prim.Native.Nat.{ℕ, zero, suc, ◌+◌, ◌≤◌, ◌<◌}
use mathlib.Core.Path.{◌≡◌, refl, ap}
use mathlib.Core.Bool.{Bool, true, false, not, ◌&&◌}
use mathlib.Core.List.{List, [], ◌∷◌, map}
use mathlib.Core.Logic.{⊎_elim}
use native.Mathlib.Omega.{arith}
use native.Mathlib.Nat.{zero-add}
use lib.Dec.{ltb}
use lib.ListN.{length}
use borrow.Author.Tests.{ltb-false}
use Rattle.numbers.specs.Numbers.{All, over}
use Rattle.numbers.proofs.Tests.{and-false, or_false}
use Rattle.numbers.proofs.Sums.{sum, over-end}
use Rattle.schedule.specs.Walk.{Task, Job, fresh, released, release, work, pick, before, late, misses}
use Rattle.schedule.specs.Counted.{count, ran, busy_at, idle_at}
use Rattle.schedule.proofs.Picked.{left_of, run-left}
use Rattle.schedule.proofs.Demand.{Sporadic}
use Rattle.schedule.proofs.State.{sum-tasks, before-all, length-released}

-- ---- busy, left and released
released-left : (t : ℕ) (j : Job) (e : ℕ) → (ltb 0 e && ltb 0 j.left) ≡ false → j.left + e ≡ (released t j e).left
released-left t j zero h = omega arith
released-left t j (suc e) h =
    ⊎_elim (λ a. absurd (omega (arith, ltb-false 0 (suc e) a))) (λ a. omega (arith, ltb-false 0 j.left a))
    (and-false (ltb 0 (suc e)) (ltb 0 j.left) h)

releases_left : (t : ℕ) (js : List Job) → late t js ≡ false → sum left_of js + sum (λ j. j.task.arrives t) js ≡ sum left_of (map (release t) js)
releases_left t [] h = omega arith
releases_left t (j ∷ js) h =
    let o = or_false (ltb 0 (j.task.arrives t) && ltb 0 j.left) (late t js) h in
    omega (arith, released-left t j (j.task.arrives t) o.0, releases_left t js o.1)

fresh-left : (ks : List Task) → sum left_of (map fresh ks) ≡ 0
fresh-left [] = refl
fresh-left (k ∷ ks) = omega (arith, fresh-left ks)

-- the ticks of the jobs that a task releases before t
abbrev pub released_before : ℕ → Task → ℕ
released_before t k = over k.arrives 0 t

released-none : (ks : List Task) → sum (released_before 0) ks ≡ 0
released-none [] = refl
released-none (k ∷ ks) = omega (arith, released-none ks)

released-more : (t : ℕ) (ks : List Task) → sum (released_before (suc t)) ks ≡ sum (released_before t) ks + sum (λ k. k.arrives t) ks
released-more t [] = omega arith
released-more t (k ∷ ks) = omega (arith, over-end k.arrives 0 t, ap k.arrives (zero-add t), released-more t ks)

busy_step : (ks : List Task) (t : ℕ) → busy_at ks t + sum left_of (before ks (suc t)) ≡ sum left_of (map (release t) (before ks t))
busy_step ks t = rw (← length-released ks t) (run-left (map (release t) (before ks t)))

pub done : (ks : List Task) (t : ℕ) → ((u : ℕ) → u < t → misses ks u ≡ false) →
    over (busy_at ks) 0 t + sum left_of (before ks t) ≡ sum (released_before t) ks
done ks zero h = omega (arith, released-none ks, fresh-left ks)
done ks (suc t) h =
    omega (
      arith,
      done ks t (λ u l. h u (omega arith)),
      released-more t ks,
      releases_left t (before ks t) (h t (omega arith)),
      sum-tasks (λ k. k.arrives t) ks t,
      busy_step ks t,
      over-end (busy_at ks) 0 t,
      ap (busy_at ks) (zero-add t),
    )

-- Each tick is busy or idle.
one_of_two : (b : Bool) → count b + count (not b) ≡ 1
one_of_two true = refl
one_of_two false = refl

pub busy_or-idle : (ks : List Task) (t n : ℕ) → over (busy_at ks) t n + over (idle_at ks) t n ≡ n
busy_or-idle ks t zero = refl
busy_or-idle ks t (suc n) = omega (arith, one_of_two (ltb (ran ks t) (length ks)), busy_or-idle ks (suc t) n)

-- ---- at a tick at which every task releases a full job, a walk that does not miss there has nothing left
-- a job never has more left than its task's job time, so that a task of job time 0 has nothing left
abbrev pub Bounded : Job → Type 0
Bounded j = j.left ≤ j.task.time

released_bounded : (t : ℕ) (j : Job) (e : ℕ) → e ≤ j.task.time → Bounded j → Bounded (released t j e)
released_bounded t j zero h b = b
released_bounded t j (suc e) h b = h

release_bounded : (t : ℕ) (js : List Job) → All (λ j. Sporadic j.task) js → All Bounded js → All Bounded (map (release t) js)
release_bounded t [] s b = tt
release_bounded t (j ∷ js) s b = (released_bounded t j (j.task.arrives t) (s.0.within t) b.0, release_bounded t js s.1 b.1)

work_bounded : (js : List Job) (n : ℕ) → All Bounded js → All Bounded (work js n)
work_bounded [] n b = tt
work_bounded (j ∷ js) zero b = (omega (arith, b.0), b.1)
work_bounded (j ∷ js) (suc n) b = (b.0, work_bounded js n b.1)

fresh_bounded : (ks : List Task) → All Bounded (map fresh ks)
fresh_bounded [] = tt
fresh_bounded (k ∷ ks) = (omega arith, fresh_bounded ks)

pub before_bounded : (ks : List Task) → All Sporadic ks → (t : ℕ) → All Bounded (before ks t)
before_bounded ks a zero = fresh_bounded ks
before_bounded ks a (suc t) =
    work_bounded (map (release t) (before ks t)) (pick (map (release t) (before ks t)))
    (release_bounded t (before ks t) (before-all Sporadic ks a t) (before_bounded ks a t))

none_left : (t : ℕ) (js : List Job) → All (λ j. j.task.arrives t ≡ j.task.time) js → All Bounded js → late t js ≡ false → sum left_of js ≡ 0
none_left t [] a m h = refl
none_left t (j ∷ js) a m h =
    let o = or_false (ltb 0 (j.task.arrives t) && ltb 0 j.left) (late t js) h in
    ⊎_elim
    (λ b. omega (arith, ltb-false 0 (j.task.arrives t) b, a.0, m.0, none_left t js a.1 m.1 o.1))
    (λ b. omega (arith, ltb-false 0 j.left b, none_left t js a.1 m.1 o.1))
    (and-false (ltb 0 (j.task.arrives t)) (ltb 0 j.left) o.0)

-- Where every task releases a full job at L and nothing is missed up to L: the busy ticks before L are all that was
-- released before L.
pub all_done : (ks : List Task) (L : ℕ) → All Sporadic ks → All (λ k. k.arrives L ≡ k.time) ks → ((t : ℕ) → t ≤ L → misses ks t ≡ false) →
    over (busy_at ks) 0 L ≡ sum (released_before L) ks
all_done ks L s a h =
    let z = none_left L (before ks L) (before-all (λ k. k.arrives L ≡ k.time) ks a L) (before_bounded ks s L) (h L (omega arith)) in
    omega (arith, done ks L (λ u l. h u (omega arith)))
